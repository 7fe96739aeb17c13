use Rattle.std.proofs.Common.{◌≡◌, List, sym, ◌∙◌, subst}
use Rattle.std.proofs.lemmas.Bool.{true≢false}
use Rattle.backing.specs.declared.entries.TreeEntry.{TreeEntry}
use Rattle.backing.specs.Calls.{AskRename, PassesAll, Refuses}
use Rattle.backing.specs.Entries.{tree_of}
use Rattle.backing.specs.Checks.{source_tests, room_tests}
use Rattle.backing.proofs.Renaming.{renames_same, renames_moved, renames_refused, ends_refused}
use Rattle.backing.proofs.moving.rename.Goals as goal

pub returns-then-is-clause-ends : goal.returns-then-is-clause-ends
returns-then-is-clause-ends c =
    let es = c.args.entries.now.items in
    let s = c.args.from.now in
    let t = c.args.to.now in
    let source = subst (λ (xs : List TreeEntry). PassesAll (tree_of xs) (source_tests s t)) c.deref.ensures.value c.in_ok-expect_source.ensures.ok in
    renames_same (tree_of es) s t (c.is.ensures.0 c.if-is.true) source

pub returns-in_err-expect_room-clause-ends : goal.returns-in_err-expect_room-clause-ends
returns-in_err-expect_room-clause-ends c =
    let es = c.args.entries.now.items in
    let s = c.args.from.now in
    let t = c.args.to.now in
    let errno = c.in_err-expect_room.field-0.0 in
    let other : s ≡ t → ⊥ = λ e. true≢false (sym (c.is.ensures.1 e) ∙ c.if-is.false) in
    let source = subst (λ (xs : List TreeEntry). PassesAll (tree_of xs) (source_tests s t)) c.deref.ensures.value c.in_ok-expect_source.ensures.ok in
    let room = subst (λ (xs : List TreeEntry). Refuses (tree_of xs) (room_tests s t) errno) c.deref-2.ensures.value c.in_err-expect_room.ensures.err in
    ends_refused (tree_of es) (AskRename s t) c.from_residual-in_err-expect_room.result errno c.from_residual-in_err-expect_room.ensures.1 (renames_refused (tree_of es) s t errno other source room)

pub returns-clause-ends : goal.returns-clause-ends
returns-clause-ends c =
    let es = c.args.entries.now.items in
    let s = c.args.from.now in
    let t = c.args.to.now in
    let other : s ≡ t → ⊥ = λ e. true≢false (sym (c.is.ensures.1 e) ∙ c.if-is.false) in
    let source = subst (λ (xs : List TreeEntry). PassesAll (tree_of xs) (source_tests s t)) c.deref.ensures.value c.in_ok-expect_source.ensures.ok in
    let room = subst (λ (xs : List TreeEntry). PassesAll (tree_of xs) (room_tests s t)) c.deref-2.ensures.value c.in_ok-expect_room.ensures.ok in
    renames_moved (tree_of es) (tree_of c.move_all.new.entries.items) s t other source room c.in_ok-move_all.ensures.ok
