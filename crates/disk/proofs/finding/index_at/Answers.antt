use Rattle.std.proofs.Common.{sym, ap, ◌∙◌, subst}
use Rattle.paths.specs.Prefixes.{Names}
use Rattle.disk.specs.declared.spot.Spot.{Spot}
use Rattle.disk.specs.Spots.{IsSpotAt}
use Rattle.std.proofs.lemmas.Bool.{true≢false}
use Rattle.disk.proofs.Spotting.{spot_at, item_at, item-drop_more, item-drop_all}
use Rattle.disk.proofs.finding.index_at.Goals as goal

pub returns-then-is-clause-found : goal.returns-then-is-clause-found
returns-then-is-clause-found c =
    let spots = c.args.spots.now in
    let i = c.loop-i.i in
    let x = c.index-spots-i.result in
    let is = c.index-spots-i.is in
    let at = subst (λ (s : Spot). IsSpotAt spots s.path i) (sym is) (spot_at spots i x c.requires c.loop-i-test.true) in
    subst (λ (p : Names). IsSpotAt spots p i) (c.is.ensures.0 c.if-is.true) at

pub loop-i-preserved : goal.loop-i-preserved
loop-i-preserved c =
    let x = c.index-spots-i.result in
    c.loop-i.invariant ∙ item-drop_more c.args.spots.now c.args.path.now c.loop-i.i x c.loop-i-test.true (λ e. true≢false (sym (c.is.ensures.1 (ap (λ (s : Spot). s.path) c.index-spots-i.is ∙ e)) ∙ c.if-is.false))

pub returns-clause-none : goal.returns-clause-none
returns-clause-none c =
    item_at c.args.spots.now c.args.path.now c.requires ∙ (c.loop-i.invariant ∙ item-drop_all c.args.spots.now c.args.path.now c.loop-i.i c.loop-i-test.false)
