use Rattle.std.proofs.Common.{Some, sym, ap, ◌∙◌, subst}
use Rattle.disk.specs.declared.spot.Spot.{Spot}
use Rattle.disk.specs.Spots.{IsSpotAt}
use Rattle.disk.proofs.Spotting.{spot_at, path-drop_found}
use Rattle.disk.proofs.finding.index_of.Goals as goal

pub returns-then-spot-number-clause-found : goal.returns-then-spot-number-clause-found
returns-then-spot-number-clause-found c =
    let spots = c.args.spots.now in
    let i = c.loop-i.i in
    let x = c.index-spots-i.result in
    let is = c.index-spots-i.is in
    let found = path-drop_found spots c.args.number i x c.loop-i-test.true (ap (λ (s : Spot). s.number) (sym is) ∙ c.if-spot-number.true) in
    record {
      path = x.path;
      leads = c.loop-i.invariant ∙ (found ∙ ap (λ (s : Spot). Some s.path) (sym is));
      at = subst (λ (s : Spot). IsSpotAt spots s.path i) (sym is) (spot_at spots i x c.requires c.loop-i-test.true);
    }
