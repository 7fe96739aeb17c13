-- The results of a rename.
use Rattle.std.proofs.Common.{ℕ, ℤ, ◌≡◌, suc, zero, Bool, false, cond, List, ◌++◌, ◌∷◌, [], map, Option, None, Result, Ok, Err, refl, sym, ap, ◌∙◌, subst, inl, inr}
use Rattle.std.specs.Result.{IsErrAnd}
use Rattle.std.specs.List.{remove}
use Rattle.paths.specs.Prefixes.{Names, is_prefix}
use Rattle.backing.specs.declared.call.Answer.{Answer}
use Rattle.backing.specs.declared.call.Answer.TheVariants.{Done}
use Rattle.backing.specs.declared.refusal.Refusal.{Refusal}
use Rattle.backing.specs.declared.refusal.Refusal.TheVariants.{Errno}
use Rattle.backing.specs.declared.entries.TreeEntry.{TreeEntry}
use Rattle.backing.specs.Tree.{Tree, IsTree, Resolves, IsBare, moved, without}
use Rattle.backing.specs.Calls.{memory_limit, Asked, AskRename, PassesAll, Refuses, Does, tests_of, unless}
use Rattle.backing.specs.Checks.{source_tests, room_tests}
use Rattle.backing.specs.Entries.{tree_of, IsDistinct, IsEntryTree}
use Rattle.backing.specs.Moves.{moved_path, with_paths, Clears}
use Rattle.backing.specs.Refusals.{Ends}
use Rattle.backing.proofs.PathLemmas.{is_path-yes, is_path-no}
use Rattle.backing.proofs.Looking.{without_same, tree-not_root}
use Rattle.backing.proofs.Lawful.{cases_Option, no_item, stands_above}
use Rattle.backing.proofs.Putting.{removed_tree, removed_lawful}
use Rattle.backing.proofs.Relocating.{all_moved, Outside, outside, relocated_all, distinct_moved, tree-moved, moved-without, longer_root, moved_tree}
use Rattle.backing.proofs.Tests.{refuses_later, passes_both}

pub renames_same : (at : Tree) (s t : Names) → s ≡ t → PassesAll at (source_tests s t) → PassesAll at (tests_of memory_limit (AskRename s t)) × Does at (AskRename s t) Done at
renames_same at s t same source =
    subst (λ (b : Bool). PassesAll at (source_tests s t ++ unless b (room_tests s t)) × ((Done ≡ Done) × (at ≡ cond b at (moved at s t)))) (sym (is_path-yes s t same)) (passes_both at (source_tests s t) [] source tt, (refl, refl))

pub renames_moved : (at new : Tree) (s t : Names) → (s ≡ t → ⊥) → PassesAll at (source_tests s t) → PassesAll at (room_tests s t) → new ≡ moved at s t → PassesAll at (tests_of memory_limit (AskRename s t)) × Does at (AskRename s t) Done new
renames_moved at new s t other source room is =
    subst (λ (b : Bool). PassesAll at (source_tests s t ++ unless b (room_tests s t)) × ((Done ≡ Done) × (new ≡ cond b at (moved at s t)))) (sym (is_path-no s t other)) (passes_both at (source_tests s t) (room_tests s t) source room, (refl, is))

pub renames_refused : (at : Tree) (s t : Names) (errno : ℤ) → (s ≡ t → ⊥) → PassesAll at (source_tests s t) → Refuses at (room_tests s t) errno → Refuses at (tests_of memory_limit (AskRename s t)) errno
renames_refused at s t errno other source room =
    subst (λ (b : Bool). Refuses at (source_tests s t ++ unless b (room_tests s t)) errno) (sym (is_path-no s t other)) (refuses_later at (source_tests s t) (room_tests s t) errno source room)

pub ends_refused : (old : Tree) (call : Asked) (result : Result Answer Refusal) (errno : ℤ) → IsErrAnd result (λ refusal. refusal ≡ Errno errno) → Refuses old (tests_of memory_limit call) errno → Ends old call result old
ends_refused old call (Ok answer) errno h refused = absurd h
ends_refused old call (Err refusal) errno h refused = subst (λ (r : Refusal). Ends old call (Err r) old) (sym h) (refused, refl)

map-remove : {A B : Type 0} (f : A → B) (xs : List A) (i : ℕ) → remove (map f xs) i ≡ map f (remove xs i)
map-remove f [] zero = refl
map-remove f [] (suc i) = refl
map-remove f (x ∷ xs) zero = refl
map-remove {B = B} f (x ∷ xs) (suc i) = ap (λ (ys : List B). f x ∷ ys) (map-remove f xs i)

-- the list after the target is cleared: it is lawful, its tree has nothing at t, and the entries move as the paths say
pub record Cleared (es cs new : List TreeEntry) (s t : Names) : Type 0 where
  pub went : new ≡ all_moved s t cs
  pub lawful : IsEntryTree cs
  pub nothing : tree_of cs t ≡ None
  pub tree : moved (tree_of cs) s t ≡ moved (tree_of es) s t

clear : (es cs new : List TreeEntry) (ps qs : List (Option Names)) (s t : Names) → IsEntryTree es → (t ≡ [] → ⊥) → is_prefix s t ≡ false → IsBare (tree_of es) t
    → ps ≡ map (λ (e : TreeEntry). moved_path s t e.path) es → Clears es cs ps qs t → new ≡ with_paths cs qs → Cleared es cs new s t
clear es cs new ps qs s t lawful low apart bare paths (inl (none, same, kept)) moves = record {
  went = moves ∙ (ap (λ (xs : List (Option Names)). with_paths cs xs) (kept ∙ (paths ∙ ap (λ (xs : List TreeEntry). map (λ (e : TreeEntry). moved_path s t e.path) xs) (sym same))) ∙ relocated_all s t cs);
  lawful = subst (λ (xs : List TreeEntry). IsEntryTree xs) (sym same) lawful;
  nothing = ap (λ (xs : List TreeEntry). tree_of xs t) same ∙ (tree-not_root es t low ∙ none);
  tree = ap (λ (xs : List TreeEntry). moved (tree_of xs) s t) same;
}
clear es cs new ps qs s t lawful low apart bare paths (inr (i, found, gone, left)) moves =
    let f : TreeEntry → Option Names = λ e. moved_path s t e.path in
    let without_t : tree_of cs ≡ without (tree_of es) t = ap (λ (xs : List TreeEntry). tree_of xs) gone ∙ removed_tree es t i lawful low found in
    record {
      went = moves ∙ (ap (λ (xs : List (Option Names)). with_paths cs xs) (left ∙ (ap (λ (xs : List (Option Names)). remove xs i) paths ∙ (map-remove f es i ∙ ap (λ (xs : List TreeEntry). map f xs) (sym gone)))) ∙ relocated_all s t cs);
      lawful = subst (λ (xs : List TreeEntry). IsEntryTree xs) (sym gone) (removed_lawful es t i lawful low found bare);
      nothing = ap (λ (at : Tree). at t) without_t ∙ without_same (tree_of es) t;
      tree = ap (λ (at : Tree). moved at s t) without_t ∙ moved-without (tree_of es) s t apart;
    }

outside_cleared : (cs : List TreeEntry) (t : Names) → IsEntryTree cs → (t ≡ [] → ⊥) → tree_of cs t ≡ None → Outside t cs
outside_cleared cs t lawful low nothing = outside t cs (λ more. elim (cases_Option (tree_of cs (t ++ more))) [
  | inl none ↦ sym (tree-not_root cs (t ++ more) (longer_root t more low)) ∙ none
  | inr some ↦ absurd (no_item (tree_of cs t) nothing (stands_above (tree_of cs) lawful.tree t more some))
])

pub all_renamed : (es cs new : List TreeEntry) (ps qs : List (Option Names)) (s t : Names) → IsEntryTree es → (s ≡ [] → ⊥) × (t ≡ [] → ⊥) → (is_prefix s t ≡ false) × (is_prefix t s ≡ false) → IsBare (tree_of es) t
    → ps ≡ map (λ (e : TreeEntry). moved_path s t e.path) es → Clears es cs ps qs t → new ≡ with_paths cs qs → tree_of new ≡ moved (tree_of es) s t
all_renamed es cs new ps qs s t lawful low apart bare paths clears moves =
    let it = clear es cs new ps qs s t lawful low.1 apart.0 bare paths clears moves in
    ap (λ (xs : List TreeEntry). tree_of xs) it.went ∙ (tree-moved s t cs low.0 low.1 (outside_cleared cs t it.lawful low.1 it.nothing) ∙ it.tree)

pub renamed_lawful : (es cs new : List TreeEntry) (ps qs : List (Option Names)) (s t : Names) → IsEntryTree es → (s ≡ [] → ⊥) × (t ≡ [] → ⊥) → (is_prefix s t ≡ false) × (is_prefix t s ≡ false) → Resolves (tree_of es) t → IsBare (tree_of es) t
    → ps ≡ map (λ (e : TreeEntry). moved_path s t e.path) es → Clears es cs ps qs t → new ≡ with_paths cs qs → IsEntryTree new
renamed_lawful es cs new ps qs s t lawful low apart leads bare paths clears moves =
    let it = clear es cs new ps qs s t lawful low.1 apart.0 bare paths clears moves in
    let out = outside_cleared cs t it.lawful low.1 it.nothing in
    record {
      distinct = subst (λ (xs : List TreeEntry). IsDistinct xs) (sym it.went) (distinct_moved s t cs it.lawful.distinct out);
      tree = subst (λ (at : Tree). IsTree at) (sym (all_renamed es cs new ps qs s t lawful low apart bare paths clears moves)) (moved_tree (tree_of es) s t lawful.tree low.0 low.1 leads apart.0);
    }
