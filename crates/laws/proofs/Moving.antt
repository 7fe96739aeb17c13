-- Renames and further names: what they do by objects, told of paths, and that each object has one name after a rename.
use Rattle.std.proofs.Common.{ℕ, ◌≡◌, ◌++◌, Bool, false, Option, Result, Ok, Err, length, drop, refl, sym, ap, ◌∙◌, subst, inl, inr}
use Rattle.std.proofs.lemmas.Bool.{cond-true, cond-false, true≢false}
use Rattle.paths.specs.Prefixes.{Names, is_prefix}
use Rattle.paths.proofs.PrefixLemmas.{is_prefix-append, is_prefix-same, drop-append}
use Rattle.backing.specs.declared.entries.Item.{Item}
use Rattle.backing.specs.Tree.{IsOther}
use Rattle.backing.proofs.Relocating.{prefix_cases}
use Rattle.disk.specs.declared.error.DiskError.{DiskError}
use Rattle.disk.specs.declared.error.DiskError.TheVariants.{Absent, Exists, NotFolder, IsFolder, NotEmpty, Failed}
use Rattle.disk.specs.Answers as by_paths
use Rattle.disk.specs.Answers.{AreApart, new_path}
use Rattle.laws.specs.Objects.{Objects, Named, HasOneName, AllAreItems, tree_by_paths, with_name, with_names_moved, stands_unlinked}
use Rattle.laws.specs.ObjectAnswers.{AddsName, AreSame, Becomes, Moves, Renames, Links}
use Rattle.laws.proofs.Naming.{names_below, names_else, tree_with_further, tree_with_names_moved, once_with_names_moved}
use Rattle.laws.proofs.Becoming.{item_at, nothing_at, something_at, becomes_tree, becomes_leads, becomes_once, stays, stays_once}

-- what stood at p stands where p leads, but for what stood at t or below it
name_follows : (at : Named) (s t p : Names) → is_prefix t p ≡ false → with_names_moved at s t (new_path s t p) ≡ at p
name_follows at s t p above = elim (prefix_cases s p) [
  | inl (more, e) ↦
      let leads : new_path s t (s ++ more) ≡ t ++ more = cond-true (is_prefix s (s ++ more)) (t ++ drop (length s) (s ++ more)) (s ++ more) (is_prefix-append s more) ∙ ap (λ (r : Names). t ++ r) (drop-append s more) in
      let there : with_names_moved at s t (new_path s t (s ++ more)) ≡ at (s ++ more) = ap (λ (r : Names). with_names_moved at s t r) leads ∙ names_below at s t more in
      subst (λ (r : Names). with_names_moved at s t (new_path s t r) ≡ at r) (sym e) there
  | inr beside ↦
      let leads : new_path s t p ≡ p = cond-false (is_prefix s p) (t ++ drop (length s) p) p beside in
      ap (λ (r : Names). with_names_moved at s t r) leads ∙ names_else at s t p above beside
]

-- both paths are names of one object, which has one name
not_same : (objects : Objects) (s t : Names) → HasOneName objects.at → AreApart s t → AreSame objects s t → ⊥
not_same objects s t one apart same =
    let e : s ≡ t = one.once s t same.object same.source same.target in
    true≢false (sym (is_prefix-same s) ∙ (ap (λ (r : Names). is_prefix s r) e ∙ apart.not_into))

module _ {H : Type 0} (linked : Bool) (objects objects' : Objects) (old new : H → Option ℕ) (are : AllAreItems objects) where
  moved_stay : (s t : Names) → Becomes (with_names_moved objects.at s t) objects.item old objects' new → (handle : H) (p : Names) → is_prefix t p ≡ false → stands_unlinked linked objects old handle p → stands_unlinked linked objects' new handle (new_path s t p)
  moved_stay s t became handle p above (free, led) =
      (free, becomes_leads (with_names_moved objects.at s t) objects.item old objects' new became handle led.object (new_path s t p) led.holds (name_follows objects.at s t p above ∙ led.stands))

  moves : (s t : Names) → Moves objects old s t objects' new
      → by_paths.Moves (tree_by_paths objects) (stands_unlinked linked objects old) s t (tree_by_paths objects') (stands_unlinked linked objects' new)
  moves s t did = record {
    source = something_at objects s are did.source;
    no_other_on_folder = did.no_other_on_folder;
    no_folder_on_other = did.no_folder_on_other;
    bare = did.bare;
    tree = becomes_tree (with_names_moved objects.at s t) objects.item old objects' new did.becomes ∙ tree_with_names_moved objects.at objects.item s t;
    stay = moved_stay s t did.becomes;
  }

  pub renames : (s t : Names) (result : Result (Unit {0}) DiskError) → HasOneName objects.at → AreApart s t → Renames objects old s t result objects' new
      → by_paths.Renames (tree_by_paths objects) (stands_unlinked linked objects old) s t result (tree_by_paths objects') (stands_unlinked linked objects' new)
  renames s t (Ok done) one apart (inl (same, did)) = absurd (not_same objects s t one apart same)
  renames s t (Ok done) one apart (inr did) = moves s t did
  renames s t (Err Absent) one apart (none, did) = (nothing_at objects s none, stays linked objects objects' old new did)
  renames s t (Err IsFolder) one apart (other, folder, did) = (other, folder, stays linked objects objects' old new did)
  renames s t (Err NotFolder) one apart (folder, other, did) = (folder, other, stays linked objects objects' old new did)
  renames s t (Err NotEmpty) one apart (folder, folder', names, did) = (folder, folder', names, stays linked objects objects' old new did)
  renames s t (Err (Failed errno)) one apart (inl none) = inl (stays linked objects objects' old new none)
  renames s t (Err (Failed errno)) one apart (inr did) = inr (moves s t did)
  renames s t (Err error) one apart did = stays linked objects objects' old new did

  -- a further name
  pub adds_name : (s t : Names) → AddsName objects old s t objects' new → by_paths.AddsName (tree_by_paths objects) s t (tree_by_paths objects')
  adds_name s t did = record {
    other = subst (λ (found : Option Item). IsOther found) (sym (item_at objects s did.object (objects.item did.object) did.source refl)) did.other;
    free = nothing_at objects t did.free;
    tree = becomes_tree (with_name objects.at t did.object) objects.item old objects' new did.becomes ∙ tree_with_further objects.at objects.item s t did.object did.source;
  }

  -- a further name that was not granted
  pub links_not : (s t : Names) (error : DiskError) → Links objects old s t (Err error) objects' new
      → by_paths.Links (tree_by_paths objects) (stands_unlinked linked objects old) s t (Err error) (tree_by_paths objects') (stands_unlinked linked objects' new)
  links_not s t Absent (none, did) = (nothing_at objects s none, stays linked objects objects' old new did)
  links_not s t Exists (source, target, did) = (something_at objects s are source, something_at objects t are target, stays linked objects objects' old new did)
  links_not s t error did = stays linked objects objects' old new did

module _ {H : Type 0} (objects objects' : Objects) (old new : H → Option ℕ) (one : HasOneName objects.at) where
  moves_once : (s t : Names) → Moves objects old s t objects' new → HasOneName objects'.at
  moves_once s t did = becomes_once (with_names_moved objects.at s t) objects.item old objects' new did.becomes (once_with_names_moved objects.at s t one)

  pub renames_once : (s t : Names) (result : Result (Unit {0}) DiskError) → Renames objects old s t result objects' new → HasOneName objects'.at
  renames_once s t (Ok done) (inl (same, did)) = stays_once objects objects' old new one did
  renames_once s t (Ok done) (inr did) = moves_once s t did
  renames_once s t (Err Absent) did = stays_once objects objects' old new one did.1
  renames_once s t (Err IsFolder) did = stays_once objects objects' old new one did.2
  renames_once s t (Err NotFolder) did = stays_once objects objects' old new one did.2
  renames_once s t (Err NotEmpty) did = stays_once objects objects' old new one did.3
  renames_once s t (Err (Failed errno)) (inl none) = stays_once objects objects' old new one none
  renames_once s t (Err (Failed errno)) (inr did) = moves_once s t did
  renames_once s t (Err error) did = stays_once objects objects' old new one did

  pub links_not_once : (s t : Names) (error : DiskError) → Links objects old s t (Err error) objects' new → HasOneName objects'.at
  links_not_once s t Absent did = stays_once objects objects' old new one did.1
  links_not_once s t Exists did = stays_once objects objects' old new one did.2
  links_not_once s t error did = stays_once objects objects' old new one did
