-- What is kept after what was under one name was put under another.
use Rattle.std.proofs.Common.{◌≡◌, ℕ, ◌<◌, false, cond, inl, inr, [], ◌∷◌, ◌++◌, length, drop, Option, Some, None, sym, ap, ◌∙◌, subst}
use Rattle.std.specs.Option.{option_map}
use Rattle.std.proofs.lemmas.Bool.{cond-false}
use Rattle.paths.specs.Prefixes.{Name, Names, is_prefix}
use Rattle.path_cache.specs.declared.entries.Entry.{Entry}
use Rattle.path_cache.specs.declared.places.Place.{Place}
use Rattle.path_cache.specs.Places.{number_of}
use Rattle.path_cache.specs.Walks.{Kept, Finds, reached, with_found, without_found, IsNumbered}
use Rattle.path_cache.specs.Entries.{Entries, kept_of, entry_in, found, MayPut}
use Rattle.path_cache.specs.Cache.{Cache, kept_at, IsAt, without_all, relocated, IsRelocated, AreApart}
use Rattle.path_cache.proofs.Changing.{parent_far, reached_below}
use Rattle.path_cache.proofs.Relocating.{without_both, both_numbered, moved_numbered, reached-without_both, reached-moved}
use Rattle.path_cache.proofs.Caching.{SameAt, entry_at, place_stays}
use Rattle.path_cache.proofs.Keeping.{map_cond}

-- numbers stay apart, whichever names those are
pub move_numbered : {V : Type 0} (find : Finds V) (next : ℕ) → IsNumbered find next → (n : ℕ) (name : Name) (m : ℕ) (other : Name) → m < next → (o : Option (Kept V)) → find n name ≡ o → (new : Finds V)
    → MayPut (without_both find n name m other) m other o new → IsNumbered new next
move_numbered find next law n name m other under None was new may = subst (λ f. IsNumbered f next) (sym may) (both_numbered find next law n name m other)
move_numbered find next law n name m other under (Some e) was new (inl same) = subst (λ f. IsNumbered f next) (sym same) (both_numbered find next law n name m other)
move_numbered find next law n name m other under (Some e) was new (inr put) = subst (λ f. IsNumbered f next) (sym put) (moved_numbered find next law n name m other e was under)

module _ {V : Type 0} (old new : Cache V) (law : IsNumbered (found old.entries) old.next) (root : new.root ≡ old.root)
    (from : Place) (up : Names) (is_from : IsAt old from up) (name : Name) (to : Place) (above : Names) (is_to : IsAt old to above) (other : Name) (apart : AreApart (up ++ name ∷ []) (above ++ other ∷ [])) where
  abbrev both : Finds V
  both = without_both (found old.entries) (number_of from) name (number_of to) other

  -- whichever of the two came about, what is reached elsewhere is the same
  abbrev Elsewhere : Type 0
  Elsewhere = (q : Names) → is_prefix (up ++ name ∷ []) q ≡ false → is_prefix (above ++ other ∷ []) q ≡ false → SameAt old new q

  numbers_are : (u a : Kept V) → u.number ≡ number_of from → a.number ≡ number_of to → both ≡ without_both (found old.entries) u.number name a.number other
  numbers_are u a nu na = ap (λ n. without_both (found old.entries) n name (number_of to) other) (sym nu) ∙ ap (λ m. without_both (found old.entries) u.number name m other) (sym na)

  lost_reached : found new.entries ≡ both → (q : Names) → reached (found new.entries) new.root q ≡ without_all (without_all (reached (found old.entries) old.root) (up ++ name ∷ [])) (above ++ other ∷ []) q
  lost_reached finds q =
      let (u, at_u, nu) = entry_at old from up is_from in
      let (a, at_a, na) = entry_at old to above is_to in
      ap (λ f. reached f new.root q) (finds ∙ numbers_are u a nu na)
      ∙ (ap (λ r. reached (without_both (found old.entries) u.number name a.number other) r q) root
      ∙ reached-without_both (found old.entries) old.root old.next law up u at_u name above a at_a other apart q)

  moved_at : (e : Kept V) → found old.entries (number_of from) name ≡ Some e → found new.entries ≡ with_found both (number_of to) other e
      → (q : Names) → reached (found new.entries) new.root q ≡ relocated (reached (found old.entries) old.root) (up ++ name ∷ []) (above ++ other ∷ []) q
  moved_at e was finds q =
      let (u, at_u, nu) = entry_at old from up is_from in
      let (a, at_a, na) = entry_at old to above is_to in
      ap (λ f. reached f new.root q) (finds ∙ (ap (λ f. with_found f (number_of to) other e) (numbers_are u a nu na) ∙ ap (λ m. with_found (without_both (found old.entries) u.number name a.number other) m other e) (sym na)))
      ∙ (ap (λ r. reached (with_found (without_both (found old.entries) u.number name a.number other) a.number other e) r q) root
      ∙ reached-moved (found old.entries) old.root old.next law up u at_u name above a at_a other apart e (ap (λ n. found old.entries n name) nu ∙ was) q)

  lost_kept : found new.entries ≡ both → (q : Names) → kept_at new q ≡ without_all (without_all (kept_at old) (up ++ name ∷ [])) (above ++ other ∷ []) q
  unfolding kept_at
  lost_kept finds q =
      let s = up ++ name ∷ [] in let t = above ++ other ∷ [] in
      let was : Option (Kept V) = reached (found old.entries) old.root q in
      ap (option_map (λ k. k.value)) (lost_reached finds q)
      ∙ (map_cond (λ (k : Kept V). k.value) (is_prefix t q) None (cond (is_prefix s q) None was)
      ∙ ap (λ o. cond (is_prefix t q) None o) (map_cond (λ (k : Kept V). k.value) (is_prefix s q) None was))

  moved_kept : (e : Kept V) → found old.entries (number_of from) name ≡ Some e → found new.entries ≡ with_found both (number_of to) other e
      → (q : Names) → kept_at new q ≡ relocated (kept_at old) (up ++ name ∷ []) (above ++ other ∷ []) q
  unfolding kept_at
  moved_kept e at finds q =
      let s = up ++ name ∷ [] in let t = above ++ other ∷ [] in
      let was : Option (Kept V) = reached (found old.entries) old.root q in
      let there : Option (Kept V) = reached (found old.entries) old.root (s ++ drop (length t) q) in
      ap (option_map (λ k. k.value)) (moved_at e at finds q)
      ∙ (map_cond (λ (k : Kept V). k.value) (is_prefix t q) there (cond (is_prefix s q) None was)
      ∙ ap (λ o. cond (is_prefix t q) (option_map (λ (k : Kept V). k.value) there) o) (map_cond (λ (k : Kept V). k.value) (is_prefix s q) None was))

  pub is_relocated : (o : Option (Kept V)) → found old.entries (number_of from) name ≡ o → MayPut both (number_of to) other o (found new.entries) → IsRelocated (kept_at old) (up ++ name ∷ []) (above ++ other ∷ []) (kept_at new)
  is_relocated None was may = record { cases = inr (lost_kept may) }
  is_relocated (Some e) was (inl same) = record { cases = inr (lost_kept same) }
  is_relocated (Some e) was (inr put) = record { cases = inl (moved_kept e was put) }

  lost_elsewhere : found new.entries ≡ both → Elsewhere
  lost_elsewhere finds q far off =
      let s = up ++ name ∷ [] in let t = above ++ other ∷ [] in
      let was : Option (Kept V) = reached (found old.entries) old.root q in
      lost_reached finds q ∙ (cond-false (is_prefix t q) None (cond (is_prefix s q) None was) off ∙ cond-false (is_prefix s q) None was far)

  elsewhere_same : (o : Option (Kept V)) → found old.entries (number_of from) name ≡ o → MayPut both (number_of to) other o (found new.entries) → Elsewhere
  elsewhere_same None was may q far off = lost_elsewhere may q far off
  elsewhere_same (Some e) was (inl same) q far off = lost_elsewhere same q far off
  elsewhere_same (Some e) was (inr put) q far off =
      let s = up ++ name ∷ [] in let t = above ++ other ∷ [] in
      let before : Option (Kept V) = reached (found old.entries) old.root q in
      let there : Option (Kept V) = reached (found old.entries) old.root (s ++ drop (length t) q) in
      moved_at e was put q ∙ (cond-false (is_prefix t q) there (cond (is_prefix s q) None before) off ∙ cond-false (is_prefix s q) None before far)

  pub moved_placed : (o : Option (Kept V)) → found old.entries (number_of from) name ≡ o → MayPut both (number_of to) other o (found new.entries)
      → (p : Place) (q : Names) → is_prefix (up ++ name ∷ []) q ≡ false → is_prefix (above ++ other ∷ []) q ≡ false → IsAt old p q → IsAt new p q
  moved_placed o was may p q far off at =
      place_stays old new (λ r. (is_prefix (up ++ name ∷ []) r ≡ false) × (is_prefix (above ++ other ∷ []) r ≡ false))
      (λ r x (a, b). (parent_far (up ++ name ∷ []) r x a, parent_far (above ++ other ∷ []) r x b))
      (λ r (a, b). elsewhere_same o was may r a b) p q (far, off) at

-- two entries are taken out, and the first is put in the place of the second
pub moves_entry : {V : Type 0} (was first second third : Entries V) (moved : Option (Entry V)) (n : ℕ) (name : Name) (m : ℕ) (other : Name) (a b : ℕ) → n ≡ a → m ≡ b
    → moved ≡ entry_in was n name → found first ≡ without_found (found was) n name → found second ≡ without_found (found first) m other → MayPut (found second) m other (option_map kept_of moved) (found third)
    → MayPut (without_both (found was) a name b other) b other (found was a name) (found third)
unfolding found
moves_entry {V} was first second third moved n name m other a b same_a same_b at once twice put =
    let gone : found second ≡ without_both (found was) n name m other = twice ∙ ap (λ (f : Finds V). without_found f m other) once in
    let entry : option_map kept_of moved ≡ found was n name = ap (option_map kept_of) at in
    let bare = subst (λ f. MayPut f m other (option_map kept_of moved) (found third)) gone put in
    let kept = subst (λ o. MayPut (without_both (found was) n name m other) m other o (found third)) entry bare in
    let from = subst (λ k. MayPut (without_both (found was) k name m other) m other (found was k name) (found third)) same_a kept in
    subst (λ k. MayPut (without_both (found was) a name k other) k other (found was a name) (found third)) same_b from

-- a place has the number of an entry
pub place_below : {V : Type 0} (c : Cache V) → IsNumbered (found c.entries) c.next → (p : Place) (path : Names) → IsAt c p path → number_of p < c.next
place_below c law p path is =
    let (u, at, number) = entry_at c p path is in
    subst (λ n. n < c.next) number (reached_below (found c.entries) c.root c.next law path u at)
