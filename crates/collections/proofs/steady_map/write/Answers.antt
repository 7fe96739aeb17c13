use Rattle.std.proofs.Common.{Some, ap, arith}
use Rattle.std.proofs.lemmas.Grind.{common_steps}
use Rattle.collections.specs.Living.{living}
use Rattle.collections.proofs.Entries.{living_put, places_kept}
use Rattle.collections.proofs.steady_map.write.Goals as goal

pub returns-clause-live : goal.returns-clause-live
returns-clause-live g c =
    let set = living_put g.K.PartialEq.eq c.args.map.now.entries c.args.key c.args.value in
    let after = ap living (c.in-Ok.ensures.update.1 (Some c.args.value)) in
    grind (arith, common_steps, set, after)

pub returns-clause-places : goal.returns-clause-places
returns-clause-places g c =
    let kept = places_kept c.args.map.now c.in-Ok.entry (Some c.args.value) c.in-Ok.ensures.room (c.in-Ok.ensures.len (Some c.args.value)) in
    grind (arith, common_steps, kept)
