use Rattle.std.proofs.Common.{[], ◌∷◌, ◌++◌, inl, inr}
use Rattle.laws.proofs.Becoming.{stays_once}
use Rattle.laws.proofs.Moving.{renames, renames_once}
use Rattle.laws.proofs.Standing.{kept, apart_cases}
use Rattle.laws.proofs.object_disk.one_name.OneNameDisk.rename.Goals as goal

pub returns : goal.returns
returns g c = λ up up' (free, led) (free', led') apart.
    let disk = c.args.self.now.disk in
    let disk' = c.rename.new.self in
    let objects = g.D.ObjectDisk.objects disk in
    let objects' = g.D.ObjectDisk.objects disk' in
    let opens = g.D.ObjectDisk.opens disk in
    let opens' = g.D.ObjectDisk.opens disk' in
    renames c.args.self.now.linked objects objects' opens opens' (g.met.D.ObjectDisk.are_items disk) (up ++ c.args.from.now ∷ []) (up' ++ c.args.to.now ∷ []) c.rename.result (c.args.self.now.one_name free) apart (c.rename.ensures.renamed up up' led led' apart)

pub invariant_of-self : goal.invariant_of-self
invariant_of-self g c =
    let disk = c.args.self.now.disk in
    let disk' = c.rename.new.self in
    let objects = g.D.ObjectDisk.objects disk in
    let objects' = g.D.ObjectDisk.objects disk' in
    let opens = g.D.ObjectDisk.opens disk in
    let opens' = g.D.ObjectDisk.opens disk' in
    let stand = g.met.D.ObjectDisk.all_stand disk in
    record {
      one_name = λ free.
          let one = c.args.self.now.one_name free in
          kept objects objects' opens opens' c.args.from_dir.now one stand c.rename.ensures.from_nowhere (λ up led.
          kept objects objects' opens opens' c.args.to_dir.now one stand c.rename.ensures.to_nowhere (λ up' led'.
          elim (apart_cases (up ++ c.args.from.now ∷ []) (up' ++ c.args.to.now ∷ [])) [
            | inl apart ↦ renames_once objects objects' opens opens' one (up ++ c.args.from.now ∷ []) (up' ++ c.args.to.now ∷ []) c.rename.result (c.rename.ensures.renamed up up' led led' apart)
            | inr nested ↦ stays_once objects objects' opens opens' one (c.rename.ensures.nested up up' led led' nested)
          ]));
    }
