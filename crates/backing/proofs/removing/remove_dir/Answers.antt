use Rattle.std.proofs.Common.{refl, List, [], ◌∷◌, subst}
use Rattle.backing.specs.declared.entries.TreeEntry.{TreeEntry}
use Rattle.backing.specs.Calls.{PassesAll, Reached, Present, FolderAt, Bare}
use Rattle.backing.specs.Entries.{tree_of}
use Rattle.backing.proofs.removing.remove_dir.Goals as goal

pub returns-clause-ends : goal.returns-clause-ends
returns-clause-ends c =
    let p = c.args.path.now in
    let folder = subst (λ (xs : List TreeEntry). PassesAll (tree_of xs) (Reached p ∷ Present p ∷ FolderAt p ∷ [])) c.deref.ensures.value c.in_ok-expect_folder.ensures.ok in
    let bare = subst (λ (xs : List TreeEntry). PassesAll (tree_of xs) (Bare p ∷ [])) c.deref-2.ensures.value c.in_ok-expect_bare.ensures.ok in
    ((c.in_ok-expect_below_root.ensures.ok, (folder.0, (folder.1.0, (folder.1.1.0, bare)))), (refl, c.take_out.ensures.taken))
