use Rattle.std.proofs.Common.{arith, sym, ap, ◌∙◌}
use Rattle.disk.specs.declared.spot.Spot.{Spot}
use Rattle.backing.proofs.Looking.{found_one}
use Rattle.disk.proofs.Naming.{has_name, is_bare}
use Rattle.disk.proofs.finding.has_names.Goals as goal

pub returns-then-is_some-clause-yes : goal.returns-then-is_some-clause-yes
returns-then-is_some-clause-yes c = λ _.
    let x = c.spot-item.result in
    let it = found_one _ c.child_of.result (sym c.is_some.ensures ∙ c.if-is_some.true) c.child_of.ensures.some in
    let path = ap (λ (s : Spot). s.path) (sym c.spot-item.is) ∙ it.1 in
    has_name c.args.spots.now c.args.folder.now it.0.now c.loop-spot.spot-index x c.requires c.loop-spot-test.true path

pub returns-clause-no : goal.returns-clause-no
returns-clause-no c = λ _. is_bare c.args.spots.now c.args.folder.now c.requires (λ k d name within. c.loop-spot.invariant k d name (omega arith))
