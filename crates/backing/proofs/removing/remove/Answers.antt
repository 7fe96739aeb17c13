use Rattle.std.proofs.Common.{refl, List, [], ◌∷◌, subst}
use Rattle.backing.specs.declared.entries.TreeEntry.{TreeEntry}
use Rattle.backing.specs.Calls.{PassesAll, Reached, Present, NoFolder}
use Rattle.backing.specs.Entries.{tree_of}
use Rattle.backing.proofs.removing.remove.Goals as goal

pub returns-clause-ends : goal.returns-clause-ends
returns-clause-ends c =
    let p = c.args.path.now in
    (subst (λ (xs : List TreeEntry). PassesAll (tree_of xs) (Reached p ∷ Present p ∷ NoFolder p ∷ [])) c.deref.ensures.value c.in_ok-expect_other.ensures.ok, (refl, c.take_out.ensures.taken))
