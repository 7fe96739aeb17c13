-- What is reached is a tree, and a tree is what is reached of it.
use Rattle.std.proofs.Common.{◌≡◌, List, [], ◌∷◌, ◌++◌, Option, Some, None, IsSome, refl, sym, ap, ◌∙◌, subst, inl, inr, append_assoc, append-nil}
use mathlib.Core.Path.{fun_ext}
use Rattle.paths.specs.Prefixes.{Name, Names}
use Rattle.backing.specs.declared.entries.Item.{Item}
use Rattle.backing.specs.declared.entries.Item.TheVariants.{Folder}
use Rattle.backing.specs.Tree.{Tree, IsTree}
use Rattle.backing.specs.Entries.{look}
use Rattle.backing.proofs.Lawful.{no_item, stands_above, cases_Option}
use Rattle.disk.specs.declared.spot.Spot.{Spot}
use Rattle.disk.specs.Reached.{below, reached_from, rooted, reached}
use Rattle.disk.specs.Spots.{entries_of, tree_of}

-- what stands below something stands below a folder
below_some : (up item : Option Item) → IsSome (below up item) → (up ≡ Some Folder) × IsSome item
below_some None item some = absurd (no_item None refl some)
below_some (Some Folder) item some = (refl, some)
below_some (Some other) item some = absurd (no_item None refl some)

below_folder : (up item : Option Item) → up ≡ Some Folder → below up item ≡ item
below_folder up item e = ap (λ (o : Option Item). below o item) e

below_none : (up : Option Item) → below up None ≡ None
below_none None = refl
below_none (Some Folder) = refl
below_none (Some other) = refl

parent_of : (at : Tree) (start up : Names) (name : Name) → IsSome (reached_from at start (up ++ name ∷ [])) → reached_from at start up ≡ Some Folder
parent_of at start [] name some = (below_some (at start) (at (start ++ name ∷ [])) some).0
parent_of at start (x ∷ up) name some =
    let it = below_some (at start) (reached_from at (start ++ x ∷ []) (up ++ name ∷ [])) some in
    below_folder (at start) (reached_from at (start ++ x ∷ []) up) it.0 ∙ parent_of at (start ++ x ∷ []) up name it.1

pub reached_is_tree : (at : Tree) → IsTree (reached at)
reached_is_tree at = record { root = refl; parents = λ up name some. parent_of (rooted at) [] up name some }

from_tree : (at : Tree) → IsTree at → (start p : Names) → reached_from at start p ≡ at (start ++ p)
from_tree at tree start [] = ap at (sym (append-nil start))
from_tree at tree start (x ∷ p) =
    let longer : (start ++ x ∷ []) ++ p ≡ start ++ (x ∷ p) = append_assoc start (x ∷ []) p in
    let rest : reached_from at (start ++ x ∷ []) p ≡ at (start ++ (x ∷ p)) = from_tree at tree (start ++ x ∷ []) p ∙ ap at longer in
    ap (λ (o : Option Item). below (at start) o) rest ∙ (elim (cases_Option (at (start ++ (x ∷ p)))) [
      | inl none ↦ ap (λ (o : Option Item). below (at start) o) none ∙ (below_none (at start) ∙ sym none)
      | inr some ↦
          let child : IsSome (at (start ++ x ∷ [])) = stands_above at tree (start ++ x ∷ []) p (subst (λ (q : Names). IsSome (at q)) (sym longer) some) in
          below_folder (at start) (at (start ++ (x ∷ p))) (tree.parents start x child)
    ])

rooted_at : (at : Tree) → at [] ≡ Some Folder → (p : Names) → rooted at p ≡ at p
rooted_at at root [] = sym root
rooted_at at root (x ∷ p) = refl

pub reached_of : (at : Tree) → IsTree at → reached at ≡ at
reached_of at tree =
    let same : rooted at ≡ at = fun_ext (λ p. rooted_at at tree.root p) in
    ap (λ (it : Tree). λ (p : Names). reached_from it [] p) same ∙ fun_ext (λ p. from_tree at tree [] p)

pub tree_of_is_tree : (spots : List Spot) → IsTree (tree_of spots)
unfolding tree_of
tree_of_is_tree spots = reached_is_tree (look (entries_of spots))

pub tree_of_entries : (spots : List Spot) → IsTree (look (entries_of spots)) → tree_of spots ≡ look (entries_of spots)
unfolding tree_of
tree_of_entries spots tree = reached_of (look (entries_of spots)) tree
