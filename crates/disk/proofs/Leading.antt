-- Folders lead down to a path whose parent is a folder.
use Rattle.std.proofs.Common.{ℕ, ◌≡◌, ◌+◌, length, take, drop, [], ◌∷◌, ◌++◌, Option, Some, IsSome, sym, ap, ◌∙◌, subst, arith, append_assoc, append-nil, length-append}
use Rattle.std.proofs.lemmas.List.{take-append-drop, take-take}
use Rattle.std.proofs.Math.Seq.{take-append_seam}
use Rattle.paths.specs.Prefixes.{Name, Names}
use Rattle.backing.specs.declared.entries.Item.{Item}
use Rattle.backing.specs.declared.entries.Item.TheVariants.{Folder}
use Rattle.backing.specs.Tree.{Tree, IsTree, IsFolder, Resolves}
use Rattle.backing.proofs.Lawful.{some_item, stands_above}

-- above a folder are folders
folder_above : (at : Tree) → IsTree at → (up more : Names) → at (up ++ more) ≡ Some Folder → at up ≡ Some Folder
folder_above at tree up [] folder = subst (λ (p : Names). at p ≡ Some Folder) (append-nil up) folder
folder_above at tree up (x ∷ more) folder =
    let some : IsSome (at ((up ++ x ∷ []) ++ more)) = some_item (at ((up ++ x ∷ []) ++ more)) Folder (ap at (append_assoc up (x ∷ []) more) ∙ folder) in
    tree.parents up x (stands_above at tree (up ++ x ∷ []) more some)

pub leads_to : (at : Tree) (p : Names) (n : ℕ) → IsTree at → length p ≡ n + 1 → at (take n p) ≡ Some Folder → Resolves at p
leads_to at p n tree long folder = record {
  down = λ k within.
      let up = take n p in
      let whole : at (take k up ++ drop k up) ≡ Some Folder = ap at (take-append-drop k up) ∙ folder in
      let here : at (take k p) ≡ Some Folder = subst (λ (q : Names). at q ≡ Some Folder) (take-take k n p (omega arith)) (folder_above at tree (take k up) (drop k up) whole) in
      subst (λ (o : Option Item). IsFolder o) (sym here) tt;
}

not_root : (up : Names) (name : Name) → up ++ name ∷ [] ≡ [] → ⊥
not_root [] name e = cc
not_root (x ∷ up) name e = cc

-- what a path in an open folder is
pub leads_in : (at : Tree) (up p : Names) (name : Name) → IsTree at → at up ≡ Some Folder → p ≡ up ++ name ∷ [] → Resolves at p × (p ≡ [] → ⊥)
leads_in at up p name tree folder is =
    let all = leads_to at (up ++ name ∷ []) (length up) tree (length-append up (name ∷ [])) (ap at (take-append_seam up (name ∷ [])) ∙ folder) in
    (subst (λ (q : Names). Resolves at q) (sym is) all, λ e. not_root up name (sym is ∙ e))

-- the same by the path above
pub leads_under : (at : Tree) (up p : Names) (n : ℕ) → IsTree at → length p ≡ n + 1 → up ≡ take n p → at up ≡ Some Folder → Resolves at p × (p ≡ [] → ⊥)
leads_under at up p n tree long is folder =
    (leads_to at p n tree long (ap at (sym is) ∙ folder), λ e. let none : length p ≡ 0 = ap (λ (q : Names). length q) e in absurd (omega arith))
