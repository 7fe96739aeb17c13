use Rattle.std.proofs.Common.{[], ◌∷◌, ◌++◌}
use Rattle.laws.proofs.Removing.{removes, removes_once}
use Rattle.laws.proofs.Standing.{kept}
use Rattle.laws.proofs.object_disk.one_name.OneNameDisk.remove_file.Goals as goal

pub returns : goal.returns
returns g c = λ up (free, led).
    let disk = c.args.self.now.disk in
    let disk' = c.remove_file.new.self in
    let objects = g.D.ObjectDisk.objects disk in
    let objects' = g.D.ObjectDisk.objects disk' in
    let opens = g.D.ObjectDisk.opens disk in
    let opens' = g.D.ObjectDisk.opens disk' in
    removes c.args.self.now.linked objects objects' opens opens' (up ++ c.args.name.now ∷ []) c.remove_file.result (c.remove_file.ensures.removed up led)

pub invariant_of-self : goal.invariant_of-self
invariant_of-self g c =
    let disk = c.args.self.now.disk in
    let disk' = c.remove_file.new.self in
    let objects = g.D.ObjectDisk.objects disk in
    let objects' = g.D.ObjectDisk.objects disk' in
    let opens = g.D.ObjectDisk.opens disk in
    let opens' = g.D.ObjectDisk.opens disk' in
    record {
      one_name = λ free.
          let one = c.args.self.now.one_name free in
          kept objects objects' opens opens' c.args.dir.now one (g.met.D.ObjectDisk.all_stand disk) c.remove_file.ensures.nowhere (λ up led. removes_once objects objects' opens opens' one (up ++ c.args.name.now ∷ []) c.remove_file.result (c.remove_file.ensures.removed up led));
    }
