-- What is kept after a value was kept under a name, forgotten there or moved to another.
use Rattle.std.proofs.Common.{◌≡◌, ℕ, ◌<◌, ◌+◌, Bool, true, false, cond, [], ◌∷◌, ◌++◌, Option, Some, None, Bor, refl, sym, ap, ◌∙◌, subst, arith}
use Rattle.std.specs.Option.{option_map}
use Rattle.std.proofs.lemmas.Bool.{cond-true, cond-false}
use Rattle.paths.specs.Prefixes.{Name, Names, is_prefix}
use Rattle.paths.proofs.PrefixLemmas.{not_over_parent, is_prefix-same}
use Rattle.path_cache.specs.declared.places.Place.{Place}
use Rattle.path_cache.specs.declared.places.Place.TheVariants as place
use Rattle.path_cache.specs.Places.{number_of}
use Rattle.path_cache.specs.Walks.{Kept, Finds, reached, with_found, without_found, IsNumbered}
use Rattle.path_cache.specs.Entries.{Entries, found}
use Rattle.path_cache.specs.Cache.{Cache, kept_at, number_at, IsAt, with_value, without_all}
use Rattle.path_cache.proofs.Changing.{parent_far, later_numbered, with_numbered}
use Rattle.path_cache.proofs.Relocating.{reached-without, reached-with_new}
use Rattle.path_cache.proofs.Caching.{SameAt, entry_at, same_number, place_stays, number_there}

pub map_cond : {A B : Type 0} (f : A → B) (b : Bool) (x y : Option A) → option_map f (cond b x y) ≡ cond b (option_map f x) (option_map f y)
map_cond f true x y = refl
map_cond f false x y = refl

module _ {V : Type 0} (old new : Cache V) (law : IsNumbered (found old.entries) old.next) (root : new.root ≡ old.root) (p : Place) (up : Names) (is : IsAt old p up) (name : Name) where
  -- ---- an entry was taken out
  module _ (finds : found new.entries ≡ without_found (found old.entries) (number_of p) name) where
    forgot_reached : (q : Names) → reached (found new.entries) new.root q ≡ without_all (reached (found old.entries) old.root) (up ++ name ∷ []) q
    forgot_reached q =
        let (u, at, number) = entry_at old p up is in
        ap (λ f. reached f new.root q) (finds ∙ ap (λ n. without_found (found old.entries) n name) (sym number))
        ∙ (ap (λ r. reached (without_found (found old.entries) u.number name) r q) root
        ∙ reached-without (found old.entries) old.root old.next law up u at name q)

    pub forgot_kept : (q : Names) → kept_at new q ≡ without_all (kept_at old) (up ++ name ∷ []) q
    unfolding kept_at
    forgot_kept q =
        ap (option_map (λ k. k.value)) (forgot_reached q)
        ∙ map_cond (λ (k : Kept V). k.value) (is_prefix (up ++ name ∷ []) q) None (reached (found old.entries) old.root q)

    pub forgot_placed : (other : Place) (q : Names) → is_prefix (up ++ name ∷ []) q ≡ false → IsAt old other q → IsAt new other q
    forgot_placed other q far at =
        place_stays old new (λ r. is_prefix (up ++ name ∷ []) r ≡ false) (parent_far (up ++ name ∷ []))
        (λ r off. forgot_reached r ∙ cond-false (is_prefix (up ++ name ∷ []) r) None (reached (found old.entries) old.root r) off) other q far at

  -- ---- an entry was put
  module _ (e : Kept V) (number : e.number ≡ old.next) (finds : found new.entries ≡ with_found (found old.entries) (number_of p) name e) where
    keeps_reached : (q : Names) → reached (found new.entries) new.root q ≡ with_value (reached (found old.entries) old.root) (up ++ name ∷ []) e q
    keeps_reached q =
        let (u, at, folder) = entry_at old p up is in
        ap (λ f. reached f new.root q) (finds ∙ ap (λ n. with_found (found old.entries) n name e) (sym folder))
        ∙ (ap (λ r. reached (with_found (found old.entries) u.number name e) r q) root
        ∙ reached-with_new (found old.entries) old.root old.next law up u at name e number q)

    pub keeps_kept : (q : Names) → kept_at new q ≡ with_value (kept_at old) (up ++ name ∷ []) e.value q
    unfolding kept_at
    keeps_kept q =
        let path = up ++ name ∷ [] in
        let here : Option (Kept V) = cond (is_prefix q path) (Some e) None in
        ap (option_map (λ k. k.value)) (keeps_reached q)
        ∙ (map_cond (λ (k : Kept V). k.value) (is_prefix path q) here (reached (found old.entries) old.root q)
        ∙ ap (λ o. cond (is_prefix path q) o (option_map (λ (k : Kept V). k.value) (reached (found old.entries) old.root q))) (map_cond (λ (k : Kept V). k.value) (is_prefix q path) (Some e) None))

    keeps_same : (q : Names) → is_prefix (up ++ name ∷ []) q ≡ false → SameAt old new q
    keeps_same q far =
        keeps_reached q
        ∙ cond-false (is_prefix (up ++ name ∷ []) q) (cond (is_prefix q (up ++ name ∷ [])) (Some e) None) (reached (found old.entries) old.root q) far

    pub keeps_placed : (other : Place) (q : Names) → is_prefix (up ++ name ∷ []) q ≡ false → IsAt old other q → IsAt new other q
    keeps_placed other q far at = place_stays old new (λ r. is_prefix (up ++ name ∷ []) r ≡ false) (parent_far (up ++ name ∷ [])) keeps_same other q far at

    keeps_number : number_at new (up ++ name ∷ []) ≡ Some e.number
    unfolding number_at
    keeps_number =
        let path = up ++ name ∷ [] in
        let here : Option (Kept V) = cond (is_prefix path path) (Some e) None in
        ap (option_map (λ k. k.number)) (keeps_reached path
        ∙ (cond-true (is_prefix path path) here (reached (found old.entries) old.root path) (is_prefix-same path)
        ∙ cond-true (is_prefix path path) (Some e) None (is_prefix-same path)))

    pub keeps_at : (word : Bor Name) → word.now ≡ name → (n : ℕ) → n ≡ number_of p → IsAt new (place.Child n word e.number) (up ++ name ∷ [])
    keeps_at word same n folder = record {
      leads = record {
        up = up;
        whole = ap (λ (w : Name). up ++ w ∷ []) (sym same);
        above = same_number old new up (keeps_same up (not_over_parent up name)) ∙ (number_there old p up is ∙ ap (λ m. Some m) (sym folder));
        here = keeps_number;
      };
    }

-- numbers stay apart, with the new one
pub keeps_numbered : {V : Type 0} (find find' : Finds V) (next : ℕ) → IsNumbered find next → (n : ℕ) (name : Name) (e : Kept V) → e.number ≡ next → n < next → find' ≡ with_found find n name e → IsNumbered find' (next + 1)
keeps_numbered {V} find find' next law n name e number under finds =
    let put : IsNumbered (with_found find n name e) (next + 1) =
    with_numbered find (next + 1) (later_numbered find next law) n name e
    (λ m other f at same. let below = law.below m other f at in omega arith)
    (let begun = law.begun in omega arith) (omega arith) (omega arith) in
    subst (λ f. IsNumbered f (next + 1)) (sym finds) put

-- ---- the number of a place, as the code has it

pub taken_at : {V : Type 0} (old new : Entries V) (name : Name) (n m : ℕ) → n ≡ m → found new ≡ without_found (found old) n name → found new ≡ without_found (found old) m name
taken_at old new name n m same finds = subst (λ k. found new ≡ without_found (found old) k name) same finds

pub put_at : {V : Type 0} (old new : Entries V) (name : Name) (e : Kept V) (n m : ℕ) → n ≡ m → found new ≡ with_found (found old) n name e → found new ≡ with_found (found old) m name e
put_at old new name e n m same finds = subst (λ k. found new ≡ with_found (found old) k name e) same finds
