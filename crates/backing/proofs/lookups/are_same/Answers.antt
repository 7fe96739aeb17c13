use Rattle.std.proofs.Common.{◌≡◌, get_or, arith, sym, ◌∙◌}
use Rattle.std.proofs.lemmas.Bool.{false≢true}
use Rattle.backing.proofs.PathLemmas.{is_path-length, is_path-drop, is_path-drop_no}
use Rattle.backing.proofs.lookups.are_same.Goals as goal

pub returns-then-not-is : goal.returns-then-not-is
returns-then-not-is c =
    let x = c.index-names-i.result in
    let y = c.index-others-i.result in
    let other : x ≡ y → ⊥ = λ e. false≢true (sym c.if-not-is.true ∙ c.is.ensures.1 e) in
    let apart : get_or c.args.names.now c.loop-i.i x ≡ get_or c.args.others.now c.loop-i.i y → ⊥ = λ e. other (c.index-names-i.is ∙ (e ∙ sym c.index-others-i.is)) in
    sym (c.loop-i.invariant ∙ is_path-drop_no c.args.names.now c.args.others.now c.loop-i.i x y c.loop-i-test.true (omega arith) apart)

pub loop-i-preserved : goal.loop-i-preserved
loop-i-preserved c =
    let x = c.index-names-i.result in
    let y = c.index-others-i.result in
    let same : x ≡ y = c.is.ensures.0 c.if-not-is.false in
    c.loop-i.invariant ∙ is_path-drop c.args.names.now c.args.others.now c.loop-i.i x y c.loop-i-test.true (omega arith) (sym c.index-names-i.is ∙ (same ∙ c.index-others-i.is))

pub returns-then-names-others : goal.returns-then-names-others
returns-then-names-others c = sym (is_path-length c.args.names.now c.args.others.now c.if-names-others.true)
