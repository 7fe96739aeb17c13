use Rattle.std.proofs.Common.{[], ◌∷◌, ◌++◌}
use Rattle.laws.proofs.Moving.{adds_name, links_not, links_not_once}
use Rattle.laws.proofs.Standing.{kept}
use Rattle.laws.proofs.object_disk.one_name.OneNameDisk.link.Goals as goal

pub returns-in-Ok : goal.returns-in-Ok
returns-in-Ok g c = λ up up' (free, led) (free', led').
    let disk = c.args.self.now.disk in
    let disk' = c.link.new.self in
    adds_name c.args.self.now.linked (g.D.ObjectDisk.objects disk) (g.D.ObjectDisk.objects disk') (g.D.ObjectDisk.opens disk) (g.D.ObjectDisk.opens disk') (g.met.D.ObjectDisk.are_items disk) (up ++ c.args.from.now ∷ []) (up' ++ c.args.to.now ∷ []) (c.in-Ok.ensures.linked up up' led led')

pub returns-in-Err : goal.returns-in-Err
returns-in-Err g c = λ up up' (free, led) (free', led').
    let disk = c.args.self.now.disk in
    let disk' = c.link.new.self in
    let objects = g.D.ObjectDisk.objects disk in
    let objects' = g.D.ObjectDisk.objects disk' in
    let opens = g.D.ObjectDisk.opens disk in
    let opens' = g.D.ObjectDisk.opens disk' in
    links_not c.args.self.now.linked objects objects' opens opens' (g.met.D.ObjectDisk.are_items disk) (up ++ c.args.from.now ∷ []) (up' ++ c.args.to.now ∷ []) c.in-Err.error (c.in-Err.ensures.linked up up' led led')

pub invariant_of-self-in-Err-1 : goal.invariant_of-self-in-Err-1
invariant_of-self-in-Err-1 g c =
    let disk = c.args.self.now.disk in
    let disk' = c.link.new.self in
    let objects = g.D.ObjectDisk.objects disk in
    let objects' = g.D.ObjectDisk.objects disk' in
    let opens = g.D.ObjectDisk.opens disk in
    let opens' = g.D.ObjectDisk.opens disk' in
    let stand = g.met.D.ObjectDisk.all_stand disk in
    record {
      one_name = λ free.
          let one = c.args.self.now.one_name free in
          kept objects objects' opens opens' c.args.from_dir.now one stand c.in-Err.ensures.from_nowhere (λ up led.
          kept objects objects' opens opens' c.args.to_dir.now one stand c.in-Err.ensures.to_nowhere (λ up' led'.
          links_not_once objects objects' opens opens' one (up ++ c.args.from.now ∷ []) (up' ++ c.args.to.now ∷ []) c.in-Err.error (c.in-Err.ensures.linked up up' led led')));
    }
