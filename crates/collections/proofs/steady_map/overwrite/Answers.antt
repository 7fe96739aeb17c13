use Rattle.std.proofs.Common.{sym, ap, arith}
use Rattle.collections.specs.Living.{living, joined, weight}
use Rattle.collections.proofs.Entries.{living_set}
use Rattle.collections.proofs.steady_map.overwrite.Goals as goal

pub returns-in-Some-clause-live : goal.returns-in-Some-clause-live
returns-in-Some-clause-live g c _ =
    let t = g.K.PartialEq.eq c.args.key.now in
    let es = c.args.map.now.entries in
    let wrote = c.get_mut.follows.holds c.args.value in
    let set = living_set t es c.args.value c.in-Some.place.now (sym c.in-Some.ensures.value) in
    let after = ap living wrote.0 in
    let before = ap (λ o. weight (joined o)) c.in-Some.ensures.value in
    omega (arith, set, after, before)
