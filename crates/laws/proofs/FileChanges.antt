-- What changes of a folder with one file do to its objects.
use Rattle.std.proofs.Common.{ℕ, ◌≡◌, true, false, not, filter, Bool, List, [], ◌∷◌, ◌++◌, ◌||◌, Option, Some, None, IsSome, refl, sym, ap, ◌∙◌, subst, inl, inr}
use mathlib.Core.Path.{fun_ext}
use Rattle.std.proofs.Math.Bool.{cond}
use Rattle.std.proofs.lemmas.Bool.{and_parts, cond-true, cond-false, false≢true, true≢false, cases_Bool}
use Rattle.std.proofs.lemmas.Option.{none-some, same_Some}
use Rattle.paths.specs.Prefixes.{Name, Names, is_name, is_prefix}
use Rattle.paths.proofs.PrefixLemmas.{is_name-true, is_name-same, is_name-no, is_prefix-same}
use Rattle.backing.specs.declared.entries.Item.TheVariants.{File}
use Rattle.backing.specs.Tree.{IsFile, IsFolder, IsOther}
use Rattle.backing.proofs.Relocating.{three_ways}
use Rattle.backing.proofs.PathLemmas.{same_path}
use Rattle.laws.specs.declared.object_disk.one_file.FileHandle.{FileHandle}
use Rattle.laws.specs.declared.object_disk.one_file.FileHandle.TheVariants.{Root, OfFile}
use Rattle.laws.specs.Objects.{Named, HasName, HasOneName, LeadsTo, tree_by_paths, what_is, with_name, without_name, with_names_moved, with_object}
use Rattle.laws.proofs.Naming.{names_below, names_gone, names_else, with_name-same, with_name-other, without_name-same, without_name-other}
use Rattle.laws.specs.ObjectAnswers.{AddsName, AreNested, Becomes, BecomesItem, Moves, RemovesName, RenamesDone, Stays}
use Rattle.laws.specs.FileNames.{has, at_in, item_in, objects_in, opens_in}
use Rattle.laws.specs.FileNamesLemmas.{at_name, at_no_name, what_stands, not_both}

-- What is open leads where it led, however the names change, while that stands somewhere.
lead_on : (names names' : List Name) (handle : FileHandle) (object : ℕ) → opens_in names handle ≡ Some object → HasName (at_in names') object → opens_in names' handle ≡ Some object
lead_on names names' Root object e named = e
lead_on [] names' OfFile object e named = absurd (none-some object e)
lead_on (name ∷ names) (name' ∷ names') OfFile object e named = e
lead_on (name ∷ names) [] OfFile object e named = elim (what_stands [] named.path object named.stands) [
  | inl (path, root) ↦ absurd (not_both object root (sym (same_Some 1 object e)))
  | inr file ↦ absurd (false≢true file.has_it)
]

-- names of the same file change
pub names_change : (bytes : List ℕ) (names names' : List Name) (at : Named) → at_in names' ≡ at → Becomes at (item_in bytes) (opens_in names) (objects_in bytes names') (opens_in names')
names_change bytes names names' at is = record {
  at = is;
  are = λ object named. refl;
  lead = λ handle object e named. lead_on names names' handle object e (subst (λ (it : Named). HasName it object) (sym is) named);
}

pub nothing_changes : (bytes : List ℕ) (names : List Name) → Stays (objects_in bytes names) (opens_in names) (objects_in bytes names) (opens_in names)
nothing_changes bytes names = names_change bytes names names (at_in names) refl

-- the file has other bytes
pub bytes_change : (bytes bytes' : List ℕ) (names : List Name) → BecomesItem (objects_in bytes names) (opens_in names) 1 (File bytes') (objects_in bytes' names) (opens_in names)
bytes_change bytes bytes' names = record {
  at = refl;
  are = λ object named. elim (what_stands names named.path object named.stands) [
    | inl (path, root) ↦ subst (λ (n : ℕ). item_in bytes' n ≡ with_object (item_in bytes) 1 (File bytes') n) (sym root) refl
    | inr file ↦ subst (λ (n : ℕ). item_in bytes' n ≡ with_object (item_in bytes) 1 (File bytes') n) (sym file.number) refl
  ];
  lead = λ handle object e named. e;
}

pub becomes_bytes : (bytes bytes' wanted : List ℕ) (names : List Name) → bytes' ≡ wanted → BecomesItem (objects_in bytes names) (opens_in names) 1 (File wanted) (objects_in bytes' names) (opens_in names)
becomes_bytes bytes bytes' wanted names is = subst (λ (file : List ℕ). BecomesItem (objects_in bytes names) (opens_in names) 1 (File file) (objects_in bytes' names) (opens_in names)) is (bytes_change bytes bytes' names)

-- a file without names has other bytes
pub gone_bytes_change : (bytes bytes' : List ℕ) (names : List Name) → opens_in names OfFile ≡ None → Stays (objects_in bytes names) (opens_in names) (objects_in bytes' names) (opens_in names)
gone_bytes_change bytes bytes' (name ∷ names) gone = absurd (none-some 1 (sym gone))
gone_bytes_change bytes bytes' [] gone = record {
  at = refl;
  are = λ object named. elim (what_stands [] named.path object named.stands) [
    | inl (path, root) ↦ subst (λ (n : ℕ). item_in bytes' n ≡ item_in bytes n) (sym root) refl
    | inr file ↦ absurd (false≢true file.has_it)
  ];
  lead = λ handle object e named. e;
}

-- the names after one more
has-push_same : (names : List Name) (name : Name) → has (names ++ name ∷ []) name ≡ true
has-push_same [] name = ap (λ (b : Bool). b || false) (is_name-same name)
has-push_same (x ∷ names) name = elim (cases_Bool (is_name x name)) [
  | inl h ↦ ap (λ (b : Bool). b || has (names ++ name ∷ []) name) h
  | inr h ↦ ap (λ (b : Bool). b || has (names ++ name ∷ []) name) h ∙ has-push_same names name
]

has-push_other : (names : List Name) (name other : Name) → (name ≡ other → ⊥) → has (names ++ name ∷ []) other ≡ has names other
has-push_other [] name other ne = ap (λ (b : Bool). b || false) (is_name-no name other ne)
has-push_other (x ∷ names) name other ne = ap (λ (b : Bool). is_name x other || b) (has-push_other names name other ne)

-- the names without one
abbrev pub all_but : Name → List Name → List Name
all_but name names = filter (λ other. not (is_name other name)) names

stays_in : (x name : Name) (names : List Name) → is_name x name ≡ false → all_but name (x ∷ names) ≡ x ∷ all_but name names
stays_in x name names h = cond-true (not (is_name x name)) (x ∷ all_but name names) (all_but name names) (ap not h)

goes_out : (x name : Name) (names : List Name) → is_name x name ≡ true → all_but name (x ∷ names) ≡ all_but name names
goes_out x name names h = cond-false (not (is_name x name)) (x ∷ all_but name names) (all_but name names) (ap not h)

has-drop_same : (names : List Name) (name : Name) → has (all_but name names) name ≡ false
has-drop_same [] name = refl
has-drop_same (x ∷ names) name = elim (cases_Bool (is_name x name)) [
  | inl h ↦ ap (λ (xs : List Name). has xs name) (goes_out x name names h) ∙ has-drop_same names name
  | inr h ↦ ap (λ (xs : List Name). has xs name) (stays_in x name names h) ∙ (ap (λ (b : Bool). b || has (all_but name names) name) h ∙ has-drop_same names name)
]

has-drop_other : (names : List Name) (name other : Name) → (name ≡ other → ⊥) → has (all_but name names) other ≡ has names other
has-drop_other [] name other ne = refl
has-drop_other (x ∷ names) name other ne = elim (cases_Bool (is_name x name)) [
  | inl h ↦
      let apart : is_name x other ≡ false = is_name-no x other (λ e. ne (sym (is_name-true x name h) ∙ e)) in
      ap (λ (xs : List Name). has xs other) (goes_out x name names h) ∙ (has-drop_other names name other ne ∙ sym (ap (λ (b : Bool). b || has names other) apart))
  | inr h ↦ ap (λ (xs : List Name). has xs other) (stays_in x name names h) ∙ ap (λ (b : Bool). is_name x other || b) (has-drop_other names name other ne)
]

-- the objects at paths that are not the name
module _ (names names' : List Name) (name : Name) (same : (other : Name) → (name ≡ other → ⊥) → has names' other ≡ has names other) where
  at_others : (q : Names) → (name ∷ [] ≡ q → ⊥) → at_in names' q ≡ at_in names q
  at_others [] ne = refl
  at_others (other ∷ []) ne = ap (λ (b : Bool). cond b (Some 1) None) (same other (λ e. ne (ap (λ (x : Name). x ∷ []) e)))
  at_others (other ∷ below ∷ more) ne = refl

pub name_added : (names : List Name) (name : Name) → at_in (names ++ name ∷ []) ≡ with_name (at_in names) (name ∷ []) 1
name_added names name = fun_ext (λ q. elim (same_path (name ∷ []) q) [
  | inl e ↦ subst (λ (r : Names). at_in (names ++ name ∷ []) r ≡ with_name (at_in names) (name ∷ []) 1 r) e
      (at_name (names ++ name ∷ []) name (has-push_same names name) ∙ sym (with_name-same (at_in names) (name ∷ []) 1))
  | inr ne ↦ at_others names (names ++ name ∷ []) name (has-push_other names name) q ne ∙ sym (with_name-other (at_in names) (name ∷ []) 1 q ne)
])

pub name_dropped : (names : List Name) (name : Name) → at_in (all_but name names) ≡ without_name (at_in names) (name ∷ [])
name_dropped names name = fun_ext (λ q. elim (same_path (name ∷ []) q) [
  | inl e ↦ subst (λ (r : Names). at_in (all_but name names) r ≡ without_name (at_in names) (name ∷ []) r) e
      (at_no_name (all_but name names) name (has-drop_same names name) ∙ sym (without_name-same (at_in names) (name ∷ [])))
  | inr ne ↦ at_others names (all_but name names) name (has-drop_other names name) q ne ∙ sym (without_name-other (at_in names) (name ∷ []) q ne)
])

other_name : (name x : Name) → is_prefix (name ∷ []) (x ∷ []) ≡ false → name ≡ x → ⊥
other_name name x apart e = true≢false (sym (is_prefix-same (name ∷ [])) ∙ (ap (λ (it : Name). is_prefix (name ∷ []) (it ∷ [])) e ∙ apart))

-- the name is there in place of another one
module _ (names : List Name) (from to : Name) (there : has names from ≡ true) (free : has names to ≡ false) where
  two_names : from ≡ to → ⊥
  two_names e = true≢false (sym there ∙ (ap (λ (x : Name). has names x) e ∙ free))

  moved_to : (more : Names) → at_in (all_but from (names ++ to ∷ [])) (to ∷ more) ≡ at_in names (from ∷ more)
  moved_to [] =
      at_name (all_but from (names ++ to ∷ [])) to (has-drop_other (names ++ to ∷ []) from to two_names ∙ has-push_same names to) ∙ sym (at_name names from there)
  moved_to (below ∷ more) = refl

  moved_from : (q : Names) → is_prefix (from ∷ []) q ≡ true → at_in (all_but from (names ++ to ∷ [])) q ≡ None
  moved_from [] below = absurd (false≢true below)
  moved_from (x ∷ []) below =
      at_no_name (all_but from (names ++ to ∷ [])) x (subst (λ (it : Name). has (all_but from (names ++ to ∷ [])) it ≡ false) (is_name-true from x (and_parts (is_name from x) true below).0) (has-drop_same (names ++ to ∷ []) from))
  moved_from (x ∷ y ∷ more) below = refl

  not_moved : (q : Names) → is_prefix (to ∷ []) q ≡ false → is_prefix (from ∷ []) q ≡ false → at_in (all_but from (names ++ to ∷ [])) q ≡ at_in names q
  not_moved [] above below = refl
  not_moved (x ∷ []) above below =
      ap (λ (b : Bool). cond b (Some 1) None) (has-drop_other (names ++ to ∷ []) from x (other_name from x below) ∙ has-push_other names to x (other_name to x above))
  not_moved (x ∷ y ∷ more) above below = refl

  name_moved_at : (q : Names) → at_in (all_but from (names ++ to ∷ [])) q ≡ with_names_moved (at_in names) (from ∷ []) (to ∷ []) q
  name_moved_at q = three_ways (λ (r : Names). at_in (all_but from (names ++ to ∷ [])) r ≡ with_names_moved (at_in names) (from ∷ []) (to ∷ []) r) (from ∷ []) (to ∷ []) q
      (λ more. moved_to more ∙ sym (names_below (at_in names) (from ∷ []) (to ∷ []) more))
      (λ above below. moved_from q below ∙ sym (names_gone (at_in names) (from ∷ []) (to ∷ []) q above below))
      (λ above below. not_moved q above below ∙ sym (names_else (at_in names) (from ∷ []) (to ∷ []) q above below))

-- one name
only : (name other : Name) → has (name ∷ []) other ≡ true → name ≡ other
only name other has_it = elim (cases_Bool (is_name name other)) [
  | inl h ↦ is_name-true name other h
  | inr h ↦ absurd (true≢false (sym has_it ∙ ap (λ (b : Bool). b || false) h))
]

pub one_name : (name : Name) → HasOneName (at_in (name ∷ []))
one_name name = record {
  once = λ p q object at_p at_q. elim (what_stands (name ∷ []) p object at_p) [
    | inl (here, root) ↦ elim (what_stands (name ∷ []) q object at_q) [
      | inl (there, root') ↦ here ∙ sym there
      | inr file ↦ absurd (not_both object root file.number)
    ]
    | inr file ↦ elim (what_stands (name ∷ []) q object at_q) [
      | inl (there, root) ↦ absurd (not_both object root file.number)
      | inr file' ↦ file.path ∙ (ap (λ (x : Name). x ∷ []) (sym (only name file.name file.has_it) ∙ only name file'.name file'.has_it) ∙ sym file'.path)
    ]
  ];
}

pub nested_names : (from to : Name) → AreNested (from ∷ []) (to ∷ []) → from ≡ to
nested_names from to (inl into) = is_name-true from to (and_parts (is_name from to) true into).0
nested_names from to (inr over) = sym (is_name-true to from (and_parts (is_name to from) true over).0)

-- what leads to the root stands there, and what leads to the file is the file
pub root_at : (bytes : List ℕ) (names : List Name) (up : Names) → LeadsTo (objects_in bytes names) (Some 0) up → up ≡ []
root_at bytes names up led = elim (what_stands names up led.object led.stands) [
  | inl (here, root) ↦ here
  | inr file ↦ absurd (not_both led.object (sym (same_Some 0 led.object led.holds)) file.number)
]

pub file_number : (names : List Name) (object : ℕ) → opens_in names OfFile ≡ Some object → object ≡ 1
file_number [] object e = absurd (none-some object e)
file_number (name ∷ names) object e = sym (same_Some 1 object e)

opens_some : (names : List Name) (name : Name) → has names name ≡ true → opens_in names OfFile ≡ Some 1
opens_some [] name there = absurd (false≢true there)
opens_some (x ∷ names) name there = refl

-- the file has that name
module _ (bytes : List ℕ) (names : List Name) (name : Name) (there : has names name ≡ true) where
  pub is_file : IsFile (tree_by_paths (objects_in bytes names) (name ∷ []))
  is_file = subst (λ (o : Option ℕ). IsFile (what_is (item_in bytes) o)) (sym (at_name names name there)) tt

  is_other : IsOther (tree_by_paths (objects_in bytes names) (name ∷ []))
  is_other = subst (λ (o : Option ℕ). IsOther (what_is (item_in bytes) o)) (sym (at_name names name there)) tt

  pub is_some : IsSome (at_in names (name ∷ []))
  is_some = subst (λ (o : Option ℕ). IsSome o) (sym (at_name names name there)) refl

  pub file_at : LeadsTo (objects_in bytes names) (opens_in names OfFile) (name ∷ [])
  file_at = record { object = 1; stands = at_name names name there; holds = opens_some names name there }

  pub removes_name : (names' : List Name) → names' ≡ all_but name names → RemovesName (objects_in bytes names) (opens_in names) (name ∷ []) (objects_in bytes names') (opens_in names')
  removes_name names' e = record { other = is_other; becomes = names_change bytes names names' (without_name (at_in names) (name ∷ [])) (ap at_in e ∙ name_dropped names name) }

  pub adds_name : (to : Name) (names' : List Name) → has names to ≡ false → names' ≡ names ++ to ∷ [] → AddsName (objects_in bytes names) (opens_in names) (name ∷ []) (to ∷ []) (objects_in bytes names') (opens_in names')
  adds_name to names' free e = record {
    object = 1;
    source = at_name names name there;
    other = tt;
    free = at_no_name names to free;
    becomes = names_change bytes names names' (with_name (at_in names) (to ∷ []) 1) (ap at_in e ∙ name_added names to);
  }

  pub both_stay : (to : Name) → has names to ≡ true → RenamesDone (objects_in bytes names) (opens_in names) (name ∷ []) (to ∷ []) (objects_in bytes names) (opens_in names)
  both_stay to there' = inl (record { object = 1; source = at_name names name there; target = at_name names to there' }, nothing_changes bytes names)

  pub moves_name : (to : Name) (names' : List Name) → has names to ≡ false → names' ≡ all_but name (names ++ to ∷ []) → Moves (objects_in bytes names) (opens_in names) (name ∷ []) (to ∷ []) (objects_in bytes names') (opens_in names')
  moves_name to names' free e =
      let gone : at_in names (to ∷ []) ≡ None = at_no_name names to free in
      let moved : at_in names' ≡ with_names_moved (at_in names) (name ∷ []) (to ∷ []) = ap at_in e ∙ fun_ext (name_moved_at names name to there free) in
      record {
        source = is_some;
        two = λ same. none-some same.object (sym gone ∙ same.target);
        no_other_on_folder = λ other folder. subst (λ (o : Option ℕ). IsFolder (what_is (item_in bytes) o)) gone folder;
        no_folder_on_other = λ folder other. subst (λ (o : Option ℕ). IsFolder (what_is (item_in bytes) o)) (at_name names name there) folder;
        bare = record { none = λ below. refl };
        becomes = names_change bytes names names' (with_names_moved (at_in names) (name ∷ []) (to ∷ [])) moved;
      }
