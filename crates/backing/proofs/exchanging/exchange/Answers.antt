use Rattle.std.proofs.Common.{◌≡◌, List, sym, ◌∙◌, subst}
use Rattle.std.proofs.lemmas.Bool.{true≢false}
use Rattle.backing.specs.declared.entries.TreeEntry.{TreeEntry}
use Rattle.backing.specs.Calls.{AskExchange, PassesAll, Refuses}
use Rattle.backing.specs.Checks.{source_tests, exchange_tests}
use Rattle.backing.specs.Entries.{tree_of}
use Rattle.backing.proofs.Renaming.{ends_refused}
use Rattle.backing.proofs.Swapping.{exchanges_same, exchanges, exchanges_refused}
use Rattle.backing.proofs.exchanging.exchange.Goals as goal

pub returns-then-is-clause-ends : goal.returns-then-is-clause-ends
returns-then-is-clause-ends c =
    let es = c.args.entries.now.items in
    let s = c.args.first.now in
    let t = c.args.second.now in
    let source = subst (λ (xs : List TreeEntry). PassesAll (tree_of xs) (source_tests s t)) c.deref.ensures.value c.in_ok-expect_source.ensures.ok in
    exchanges_same (tree_of es) s t (c.is.ensures.0 c.if-is.true) source

pub returns-in_err-expect_other-clause-ends : goal.returns-in_err-expect_other-clause-ends
returns-in_err-expect_other-clause-ends c =
    let es = c.args.entries.now.items in
    let s = c.args.first.now in
    let t = c.args.second.now in
    let errno = c.in_err-expect_other.field-0.0 in
    let other : s ≡ t → ⊥ = λ e. true≢false (sym (c.is.ensures.1 e) ∙ c.if-is.false) in
    let source = subst (λ (xs : List TreeEntry). PassesAll (tree_of xs) (source_tests s t)) c.deref.ensures.value c.in_ok-expect_source.ensures.ok in
    let room = subst (λ (xs : List TreeEntry). Refuses (tree_of xs) (exchange_tests s t) errno) c.deref-2.ensures.value c.in_err-expect_other.ensures.err in
    ends_refused (tree_of es) (AskExchange s t) c.from_residual-in_err-expect_other.result errno c.from_residual-in_err-expect_other.ensures.1 (exchanges_refused (tree_of es) s t errno other source room)

pub returns-clause-ends : goal.returns-clause-ends
returns-clause-ends c =
    let es = c.args.entries.now.items in
    let s = c.args.first.now in
    let t = c.args.second.now in
    let other : s ≡ t → ⊥ = λ e. true≢false (sym (c.is.ensures.1 e) ∙ c.if-is.false) in
    let source = subst (λ (xs : List TreeEntry). PassesAll (tree_of xs) (source_tests s t)) c.deref.ensures.value c.in_ok-expect_source.ensures.ok in
    let room = subst (λ (xs : List TreeEntry). PassesAll (tree_of xs) (exchange_tests s t)) c.deref-2.ensures.value c.in_ok-expect_other.ensures.ok in
    exchanges (tree_of es) (tree_of c.exchange_all.new.entries.items) s t other source room c.in_ok-exchange_all.ensures.ok
