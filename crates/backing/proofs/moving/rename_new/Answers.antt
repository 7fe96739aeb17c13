use Rattle.std.proofs.Common.{List, refl, subst}
use Rattle.backing.specs.declared.entries.TreeEntry.{TreeEntry}
use Rattle.backing.specs.Calls.{PassesAll}
use Rattle.backing.specs.Checks.{source_tests, new_tests}
use Rattle.backing.specs.Entries.{tree_of}
use Rattle.backing.proofs.Tests.{passes_both}
use Rattle.backing.proofs.moving.rename_new.Goals as goal

pub returns-clause-ends : goal.returns-clause-ends
returns-clause-ends c =
    let at = tree_of c.args.entries.now.items in
    let s = c.args.from.now in
    let t = c.args.to.now in
    let source = subst (λ (xs : List TreeEntry). PassesAll (tree_of xs) (source_tests s t)) c.deref.ensures.value c.in_ok-expect_source.ensures.ok in
    let room = subst (λ (xs : List TreeEntry). PassesAll (tree_of xs) (new_tests s t)) c.deref-2.ensures.value c.in_ok-expect_new.ensures.ok in
    (passes_both at (source_tests s t) (new_tests s t) source room, (refl, c.in_ok-move_all.ensures.ok))
