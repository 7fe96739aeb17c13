use Rattle.std.proofs.Common.{[], ◌∷◌, ◌++◌}
use Rattle.backing.specs.declared.entries.Item.TheVariants.{Folder}
use Rattle.laws.proofs.Making.{makes_dir, makes_other_once}
use Rattle.laws.proofs.Standing.{kept}
use Rattle.laws.proofs.object_disk.one_name.OneNameDisk.make_dir.Goals as goal

pub returns : goal.returns
returns g c = λ up (free, led).
    let disk = c.args.self.now.disk in
    let disk' = c.make_dir.new.self in
    let objects = g.D.ObjectDisk.objects disk in
    let objects' = g.D.ObjectDisk.objects disk' in
    let opens = g.D.ObjectDisk.opens disk in
    let opens' = g.D.ObjectDisk.opens disk' in
    makes_dir c.args.self.now.linked objects objects' opens opens' (g.met.D.ObjectDisk.are_items disk) (up ++ c.args.name.now ∷ []) c.make_dir.result (c.make_dir.ensures.made up led)

pub invariant_of-self : goal.invariant_of-self
invariant_of-self g c =
    let disk = c.args.self.now.disk in
    let disk' = c.make_dir.new.self in
    let objects = g.D.ObjectDisk.objects disk in
    let objects' = g.D.ObjectDisk.objects disk' in
    let opens = g.D.ObjectDisk.opens disk in
    let opens' = g.D.ObjectDisk.opens disk' in
    record {
      one_name = λ free.
          let one = c.args.self.now.one_name free in
          kept objects objects' opens opens' c.args.dir.now one (g.met.D.ObjectDisk.all_stand disk) c.make_dir.ensures.nowhere (λ up led. makes_other_once objects objects' opens opens' one (up ++ c.args.name.now ∷ []) Folder c.make_dir.result (c.make_dir.ensures.made up led));
    }
