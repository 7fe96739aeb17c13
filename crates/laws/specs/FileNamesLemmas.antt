-- What stands in a folder with one file is a tree, and what is open leads to what stands there.
use Rattle.std.proofs.Common.{ℕ, ◌≡◌, true, false, List, [], ◌∷◌, ◌++◌, Some, None, IsSome, refl, sym, ap, ◌∙◌, subst, ◌||◌, Bool, ◌⊎◌, inl, inr}
use Rattle.std.proofs.lemmas.Bool.{cond-true, cond-false, false≢true, cases_Bool}
use Rattle.std.proofs.lemmas.Option.{none-some, same_Some}
use Rattle.paths.specs.Prefixes.{Name, Names}
use Rattle.paths.proofs.PrefixLemmas.{is_name-same}
use Rattle.backing.specs.declared.entries.Item.TheVariants.{Folder}
use Rattle.backing.specs.Tree.{IsTree}
use Rattle.backing.proofs.Lawful.{folder_not_file}
use Rattle.laws.specs.declared.object_disk.one_file.FileHandle.TheVariants.{Root, OfFile}
use Rattle.laws.specs.Objects.{AllAreItems, AllStand, FoldersOnce, tree_by_paths}
use Rattle.laws.specs.FileNames.{has, at_in, item_in, objects_in, opens_in}

pub at_name : (names : List Name) (name : Name) → has names name ≡ true → at_in names (name ∷ []) ≡ Some 1
at_name names name there = cond-true (has names name) (Some 1) None there

pub at_no_name : (names : List Name) (name : Name) → has names name ≡ false → at_in names (name ∷ []) ≡ None
at_no_name names name gone = cond-false (has names name) (Some 1) None gone

-- the root stands at p, or the file
pub record IsFileAt (names : List Name) (p : Names) (object : ℕ) : Type 0 where
  pub name : Name
  pub path : p ≡ name ∷ []
  pub number : object ≡ 1
  pub has_it : has names name ≡ true

pub what_stands : (names : List Name) (p : Names) (object : ℕ) → at_in names p ≡ Some object → ((p ≡ []) × (object ≡ 0)) ⊎ IsFileAt names p object
what_stands names [] object e = inl (refl, sym (same_Some 0 object e))
what_stands names (name ∷ []) object e = elim (cases_Bool (has names name)) [
  | inl there ↦ inr (record { name = name; path = refl; number = sym (same_Some 1 object (sym (at_name names name there) ∙ e)); has_it = there })
  | inr gone ↦ absurd (none-some object (sym (at_no_name names name gone) ∙ e))
]
what_stands names (name ∷ below ∷ more) object e = absurd (none-some object e)

pub not_both : (object : ℕ) → object ≡ 0 → object ≡ 1 → ⊥
not_both object root file = folder_not_file [] (ap (item_in []) (sym root ∙ file))

no_parent : (bytes : List ℕ) (names : List Name) (up : Names) (name : Name) → IsSome (tree_by_paths (objects_in bytes names) (up ++ name ∷ [])) → tree_by_paths (objects_in bytes names) up ≡ Some Folder
no_parent bytes names [] name some = refl
no_parent bytes names (x ∷ []) name some = absurd (false≢true some)
no_parent bytes names (x ∷ y ∷ up) name some = absurd (false≢true some)

pub file_tree : (bytes : List ℕ) (names : List Name) → IsTree (tree_by_paths (objects_in bytes names))
file_tree bytes names = record { root = refl; parents = no_parent bytes names }

pub file_items : (bytes : List ℕ) (names : List Name) → AllAreItems (objects_in bytes names)
file_items bytes names object named = elim (what_stands names named.path object named.stands) [
  | inl (path, root) ↦ subst (λ (n : ℕ). IsSome (item_in bytes n)) (sym root) refl
  | inr file ↦ subst (λ (n : ℕ). IsSome (item_in bytes n)) (sym file.number) refl
]

pub file_folders : (bytes : List ℕ) (names : List Name) → FoldersOnce (objects_in bytes names)
file_folders bytes names p q object folder at_p at_q = elim (what_stands names p object at_p) [
  | inl (here, root) ↦ elim (what_stands names q object at_q) [
    | inl (there, root') ↦ here ∙ sym there
    | inr file ↦ absurd (not_both object root file.number)
  ]
  | inr file ↦ absurd (folder_not_file bytes (sym folder ∙ ap (item_in bytes) file.number))
]

pub has_first : (name : Name) (names : List Name) → has (name ∷ names) name ≡ true
has_first name names = ap (λ (b : Bool). b || has names name) (is_name-same name)

pub file_stands : (bytes : List ℕ) (names : List Name) → AllStand (objects_in bytes names) (opens_in names)
file_stands bytes names Root object e = record { path = []; stands = e }
file_stands bytes [] OfFile object e = absurd (none-some object e)
file_stands bytes (name ∷ names) OfFile object e = record { path = name ∷ []; stands = at_name (name ∷ names) name (has_first name names) ∙ e }
