-- A tree remains a tree: each path's parent is a folder.
use Rattle.std.proofs.Common.{ℕ, ◌≡◌, length, take, List, ◌++◌, ◌∷◌, [], Option, Some, None, IsSome, refl, sym, ap, ◌∙◌, subst, arith, rules, ◌⊎◌, inl, inr, append_assoc, append-nil, length-append}
use Rattle.std.proofs.lemmas.Option.{none-some}
use Rattle.paths.specs.Prefixes.{Name, Names}
use Rattle.backing.specs.declared.entries.Item.{Item}
use Rattle.backing.specs.declared.entries.Item.TheVariants.{Folder, File, Link, Special}
use Rattle.backing.specs.Tree.{Tree, IsTree, IsFolder, Resolves, IsBare, with_item, without}
use Rattle.backing.proofs.PathLemmas.{same_path}
use Rattle.backing.proofs.Looking.{with_other, without_same, without_other}

pub some_item : (o : Option Item) (item : Item) → o ≡ Some item → IsSome o
some_item o item e = subst (λ (x : Option Item). IsSome x) (sym e) (search rules)

pub no_item : (o : Option Item) → o ≡ None → IsSome o → ⊥
no_item o e some = let gone : IsSome {T = Item} None = subst (λ (x : Option Item). IsSome x) e some in search rules

pub folder_is : (o : Option Item) → IsFolder o → o ≡ Some Folder
folder_is None h = absurd h
folder_is (Some Folder) h = refl
folder_is (Some (File bytes)) h = absurd h
folder_is (Some (Link text)) h = absurd h
folder_is (Some (Special special)) h = absurd h

pub folder_not_file : (bytes : List ℕ) → Some Folder ≡ Some (File bytes) → ⊥
folder_not_file bytes e = cc

pub cases_Option : (o : Option Item) → (o ≡ None) ⊎ IsSome o
cases_Option None = inl refl
cases_Option (Some item) = inr (search rules)

take-prefix : (up more : Names) → take (length up) (up ++ more) ≡ up
take-prefix [] more = refl
take-prefix (x ∷ up) more = ap (λ (p : Names). x ∷ p) (take-prefix up more)

pub longer : (up : Names) (name : Name) → up ++ name ∷ [] ≡ up → ⊥
longer up name e = let l : length (up ++ name ∷ []) ≡ length up = ap (λ (p : Names). length p) e in omega (arith, l, length-append up (name ∷ []))

-- the parent of a path that can be reached is a folder
pub parent_leads : (at : Tree) (up : Names) (name : Name) → Resolves at (up ++ name ∷ []) → at up ≡ Some Folder
parent_leads at up name leads =
    let it = leads.down (length up) (omega (arith, length-append up (name ∷ []))) in
    subst (λ (p : Names). at p ≡ Some Folder) (take-prefix up (name ∷ [])) (folder_is (at (take (length up) (up ++ name ∷ []))) it)

-- an item where nothing was before
pub with_new : (at : Tree) (p : Names) (item : Item) → IsTree at → Resolves at p → at p ≡ None → IsTree (with_item at p item)
with_new at p item t leads free =
    let below : p ≡ [] → ⊥ = λ e. none-some Folder (sym (subst (λ (q : Names). at q ≡ None) e free) ∙ t.root) in
    record {
      root = with_other at p item [] below ∙ t.root;
      parents = λ up name some. elim (same_path p (up ++ name ∷ [])) [
        | inl e ↦
            let folder = parent_leads at up name (subst (λ (q : Names). Resolves at q) e leads) in
            with_other at p item up (λ f. longer up name (sym e ∙ f)) ∙ folder
        | inr far ↦
            let folder = t.parents up name (subst (λ (o : Option Item). IsSome o) (with_other at p item (up ++ name ∷ []) far) some) in
            with_other at p item up (λ f. none-some Folder (sym (subst (λ (q : Names). at q ≡ None) f free) ∙ folder)) ∙ folder
      ];
    }

-- other bytes in a file
pub with_bytes : (at : Tree) (p : Names) (before after : List ℕ) → IsTree at → at p ≡ Some (File before) → IsTree (with_item at p (File after))
with_bytes at p before after t file =
    let no_folder : (q : Names) → at q ≡ Some Folder → p ≡ q → ⊥ = λ q folder e. folder_not_file before (sym folder ∙ subst (λ (r : Names). at r ≡ Some (File before)) e file) in
    record {
      root = with_other at p (File after) [] (no_folder [] t.root) ∙ t.root;
      parents = λ up name some.
          let stood : IsSome (at (up ++ name ∷ [])) = elim (same_path p (up ++ name ∷ [])) [
            | inl e ↦ some_item (at (up ++ name ∷ [])) (File before) (subst (λ (r : Names). at r ≡ Some (File before)) e file)
            | inr far ↦ subst (λ (o : Option Item). IsSome o) (with_other at p (File after) (up ++ name ∷ []) far) some
          ] in
          let folder = t.parents up name stood in
          with_other at p (File after) up (no_folder up folder) ∙ folder;
    }

-- nothing where an item without children was before
pub without_bare : (at : Tree) (p : Names) → IsTree at → (p ≡ [] → ⊥) → IsBare at p → IsTree (without at p)
without_bare at p t below bare = record {
  root = without_other at p [] below ∙ t.root;
  parents = λ up name some. elim (same_path p (up ++ name ∷ [])) [
    | inl e ↦ absurd (no_item (without at p (up ++ name ∷ [])) (subst (λ (q : Names). without at p q ≡ None) e (without_same at p)) some)
    | inr far ↦
        let stood = subst (λ (o : Option Item). IsSome o) (without_other at p (up ++ name ∷ []) far) some in
        let folder = t.parents up name stood in
        without_other at p up (λ e. no_item (at (up ++ name ∷ [])) (subst (λ (q : Names). at (q ++ name ∷ []) ≡ None) e (bare.none name)) stood) ∙ folder
  ];
}

-- what is above a path exists
pub stands_above : (at : Tree) → IsTree at → (p more : Names) → IsSome (at (p ++ more)) → IsSome (at p)
stands_above at t p [] some = subst (λ (q : Names). IsSome (at q)) (append-nil p) some
stands_above at t p (name ∷ more) some =
    let longer_path = subst (λ (q : Names). IsSome (at q)) (sym (append_assoc p (name ∷ []) more)) some in
    let child = stands_above at t (p ++ name ∷ []) more longer_path in
    some_item (at p) Folder (t.parents p name child)

-- what is no folder has no names
pub other_bare : (at : Tree) (p : Names) → IsTree at → (IsFolder (at p) → ⊥) → IsBare at p
other_bare at p t other = record {
  none = λ name. elim (cases_Option (at (p ++ name ∷ []))) [
    | inl e ↦ e
    | inr some ↦ absurd (other (subst (λ (o : Option Item). IsFolder o) (sym (t.parents p name some)) tt))
  ];
}
