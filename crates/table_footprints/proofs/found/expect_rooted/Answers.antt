use Rattle.std.proofs.Common.{take, sym, subst}
use Rattle.std.proofs.lemmas.List.{take_all}
use Rattle.std.proofs.lemmas.List.Elements.{All-push}
use Rattle.tree.specs.Places.{Leads, at_in}
use Rattle.table_footprints.specs.Gatherings.{AreRooted, IsRootedAt, location_of, told}
use Rattle.table_footprints.proofs.Gathering.{told_more}
use Rattle.table_footprints.proofs.found.expect_rooted.Goals as goal

pub loop-location-preserved : goal.loop-location-preserved
loop-location-preserved c =
    let at = at_in c.args.tree.now in
    let l = c.location-item.result in
    let i = c.loop-location.location-index in
    let leads : IsRootedAt at (location_of l) = subst (λ n. Leads at n) c.base.ensures (c.is_below.ensures.yes c.if-not-is_below.false) in
    record {
      rooted = subst (λ ls. AreRooted at ls) (sym (told_more c.args.locations.now i l c.loop-location-test.true c.location-item.is))
          (All-push (IsRootedAt at) (told (take i c.args.locations.now)) (location_of l) c.loop-location.invariant.rooted leads);
      census = λ some. c.is_below.ensures.census;
      tree = λ some. c.is_below.ensures.tree;
    }

pub returns-clause-ok : goal.returns-clause-ok
returns-clause-ok c =
    subst (λ ls. AreRooted (at_in c.args.tree.now) (told ls)) (take_all c.loop-location.location-index c.args.locations.now c.loop-location-test.false) c.loop-location.invariant.rooted
