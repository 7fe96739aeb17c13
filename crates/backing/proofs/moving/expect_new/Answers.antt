use Rattle.std.proofs.Common.{refl, sym, ◌∙◌, inl, inr}
use Rattle.std.proofs.lemmas.Bool.{true≢false}
use Rattle.backing.specs.Calls.{Refuses}
use Rattle.backing.specs.Checks.{free_tests, new_tests}
use Rattle.backing.specs.Entries.{tree_of}
use Rattle.backing.proofs.PathLemmas.{is_path-yes, is_path-no}
use Rattle.backing.proofs.Tests.{then_ok, then_err}
use Rattle.backing.proofs.moving.expect_new.Goals as goal

pub returns-then-is-clause-err : goal.returns-then-is-clause-err
returns-then-is-clause-err c = inl (is_path-yes c.args.from.now c.args.to.now (c.is.ensures.0 c.if-is.true), refl)

pub returns-then-is_prefix_of-clause-err : goal.returns-then-is_prefix_of-clause-err
returns-then-is_prefix_of-clause-err c =
    let other = is_path-no c.args.from.now c.args.to.now (λ e. true≢false (sym (c.is.ensures.1 e) ∙ c.if-is.false)) in
    inr (other, inl (sym c.is_prefix_of.ensures ∙ c.if-is_prefix_of.true, refl))

pub returns-then-is_prefix_of-2-clause-err : goal.returns-then-is_prefix_of-2-clause-err
returns-then-is_prefix_of-2-clause-err c =
    let other = is_path-no c.args.from.now c.args.to.now (λ e. true≢false (sym (c.is.ensures.1 e) ∙ c.if-is.false)) in
    inr (other, inr (sym c.is_prefix_of.ensures ∙ c.if-is_prefix_of.false, inl (sym c.is_prefix_of-2.ensures ∙ c.if-is_prefix_of-2.true, refl)))

pub returns-clause-ok : goal.returns-clause-ok
returns-clause-ok c =
    let other = is_path-no c.args.from.now c.args.to.now (λ e. true≢false (sym (c.is.ensures.1 e) ∙ c.if-is.false)) in
    then_ok c.expect_free.result (λ free. (other, (sym c.is_prefix_of.ensures ∙ c.if-is_prefix_of.false, (sym c.is_prefix_of-2.ensures ∙ c.if-is_prefix_of-2.false, free)))) c.expect_free.ensures.ok

pub returns-clause-err : goal.returns-clause-err
returns-clause-err c =
    let at = tree_of c.args.entries.now in
    let other = is_path-no c.args.from.now c.args.to.now (λ e. true≢false (sym (c.is.ensures.1 e) ∙ c.if-is.false)) in
    then_err (Refuses at (free_tests c.args.to.now)) (Refuses at (new_tests c.args.from.now c.args.to.now)) c.expect_free.result
    (λ errno refused. inr (other, inr (sym c.is_prefix_of.ensures ∙ c.if-is_prefix_of.false, inr (sym c.is_prefix_of-2.ensures ∙ c.if-is_prefix_of-2.false, refused)))) c.expect_free.ensures.err
