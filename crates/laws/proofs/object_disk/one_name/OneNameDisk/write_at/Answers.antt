use Rattle.laws.proofs.Making.{writes, writes_once}
use Rattle.laws.proofs.Standing.{kept_object}
use Rattle.laws.proofs.object_disk.one_name.OneNameDisk.write_at.Goals as goal

pub returns-clause-bytes : goal.returns-clause-bytes
returns-clause-bytes g c = λ p (free, led).
    let disk = c.args.self.now.disk in
    let disk' = c.write_at.new.self in
    let objects = g.D.ObjectDisk.objects disk in
    let objects' = g.D.ObjectDisk.objects disk' in
    let opens = g.D.ObjectDisk.opens disk in
    let opens' = g.D.ObjectDisk.opens disk' in
    writes c.args.self.now.linked objects objects' opens opens' (c.args.self.now.one_name free) p led.object c.args.offset c.args.bytes.now c.write_at.result led.stands (c.write_at.ensures.bytes led.object led.holds)

pub invariant_of-self : goal.invariant_of-self
invariant_of-self g c =
    let disk = c.args.self.now.disk in
    let disk' = c.write_at.new.self in
    let objects = g.D.ObjectDisk.objects disk in
    let objects' = g.D.ObjectDisk.objects disk' in
    let opens = g.D.ObjectDisk.opens disk in
    let opens' = g.D.ObjectDisk.opens disk' in
    record {
      one_name = λ free.
          let one = c.args.self.now.one_name free in
          kept_object objects objects' opens opens' c.args.file.now one c.write_at.ensures.nowhere (λ object opened. writes_once objects objects' opens opens' one object c.args.offset c.args.bytes.now c.write_at.result (c.write_at.ensures.bytes object opened));
    }
