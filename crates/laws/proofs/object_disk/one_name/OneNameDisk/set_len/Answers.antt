use Rattle.laws.proofs.Making.{cuts, cuts_once}
use Rattle.laws.proofs.Standing.{kept_object}
use Rattle.laws.proofs.object_disk.one_name.OneNameDisk.set_len.Goals as goal

pub returns : goal.returns
returns g c = λ p (free, led).
    let disk = c.args.self.now.disk in
    let disk' = c.set_len.new.self in
    let objects = g.D.ObjectDisk.objects disk in
    let objects' = g.D.ObjectDisk.objects disk' in
    let opens = g.D.ObjectDisk.opens disk in
    let opens' = g.D.ObjectDisk.opens disk' in
    cuts c.args.self.now.linked objects objects' opens opens' (c.args.self.now.one_name free) p led.object c.args.size c.set_len.result led.stands (c.set_len.ensures.cut led.object led.holds)

pub invariant_of-self : goal.invariant_of-self
invariant_of-self g c =
    let disk = c.args.self.now.disk in
    let disk' = c.set_len.new.self in
    let objects = g.D.ObjectDisk.objects disk in
    let objects' = g.D.ObjectDisk.objects disk' in
    let opens = g.D.ObjectDisk.opens disk in
    let opens' = g.D.ObjectDisk.opens disk' in
    record {
      one_name = λ free.
          let one = c.args.self.now.one_name free in
          kept_object objects objects' opens opens' c.args.file.now one c.set_len.ensures.nowhere (λ object opened. cuts_once objects objects' opens opens' one object c.args.size c.set_len.result (c.set_len.ensures.cut object opened));
    }
