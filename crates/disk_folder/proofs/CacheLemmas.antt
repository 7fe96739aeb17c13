-- What is kept in a cache of open files and folders, as it changes.
use Rattle.std.proofs.lemmas.Bool.{cond-true}
use Rattle.std.proofs.lemmas.List.{take-append-drop, take_more}
use Rattle.std.proofs.Common.{IfNone, ℕ, ◌+◌, ◌<◌, length, take, drop, get_or, [], ◌∷◌, ◌++◌, append_assoc, sym, ◌≡◌, ◌⊎◌, Bool, true, false, Option, Some, None, IsSome, if◌then◌else◌, refl, ap, ◌∙◌, subst, inl, inr}
use Rattle.std.specs.Option.{option_map}
use Rattle.paths.specs.Prefixes.{Name, Names, is_prefix}
use Rattle.paths.proofs.PrefixLemmas.{is_prefix-append, is_prefix-both, is_prefix-more}
use Rattle.path_cache.specs.declared.places.Place.{Place}
use Rattle.path_cache.specs.Walks.{Kept as KeptThere, walk, reached}
use Rattle.path_cache.specs.Entries.{found}
use Rattle.path_cache.specs.Cache.{Cache, kept_at, value_at, with_value, without_all, IsAt, IsRelocated}
use Rattle.path_cache.proofs.CallerLemmas.{has_value}
use Rattle.path_cache.proofs.Walking.{reached-append, walk-none}
use Rattle.disk_folder.specs.declared.opened.Open.{Open}
use Rattle.disk_folder.specs.declared.opened.Held.{Held}
use Rattle.disk_folder.specs.declared.opened.Held.TheVariants.{Kept, Own}
use Rattle.disk_folder.specs.declared.open_cache.OpenCache.{OpenCache}
use Rattle.disk_folder.specs.Standing.{Forgets, IsHeldAt, Keeps, NoneKept, Settles}

-- what is held is open
pub held_live : {H : Type 0} (c : OpenCache H) (held : Held H) (place : Place) (p : Names) → held ≡ Kept place → IsHeldAt c held p → IsSome (value_at c.cache place)
held_live {H} c held place p e at = has_value c.cache place p (subst (λ (h : Held H). IsHeldAt c h p) e at)

pub found_live : {H : Type 0} (c : OpenCache H) (place : Place) (p : Names) → IsAt c.cache place p → IsSome (value_at c.cache place)
found_live c place p at = has_value c.cache place p at

pub held_place : {H : Type 0} (c : OpenCache H) (held : Held H) (place : Place) (p : Names) → held ≡ Kept place → IsHeldAt c held p → IsAt c.cache place p
held_place {H} c held place p e at = subst (λ (h : Held H). IsHeldAt c h p) e at

-- whichever the test says, what is left of it is the same or nothing
forgotten : {V : Type 0} (b : Bool) (old new : Option V) → new ≡ (if b then None else old) → (new ≡ old) ⊎ (new ≡ None)
forgotten true old new e = inr e
forgotten false old new e = inl e

-- the same after a look-up
pub settles_found : {H : Type 0} (old new : OpenCache H) (mid : Cache (Open H)) (q : Names) → ((p : Names) → kept_at mid p ≡ kept_at old.cache p) → ((place : Place) (p : Names) → IsAt old.cache place p → IsAt mid place p) → ((p : Names) → kept_at new.cache p ≡ (if is_prefix q p then None else kept_at mid p)) → ((place : Place) (p : Names) → is_prefix q p ≡ false → IsAt mid place p → IsAt new.cache place p) → Settles old q new
settles_found {H} old new mid q same here kept places = record {
  kept = λ p. forgotten (is_prefix q p) (kept_at old.cache p) (kept_at new.cache p) (kept p ∙ ap (λ (o : Option (Open H)). if is_prefix q p then None else o) (same p));
  places = λ place p far at. places place p far (here place p at);
}

-- one more is kept
pub keeps_one : {H : Type 0} (old new : OpenCache H) (q : Names) (opened : Open H) → ((p : Names) → kept_at new.cache p ≡ with_value (kept_at old.cache) q opened p) → Keeps old q opened new
keeps_one {H} old new q opened kept = record { kept = λ p. by_tests p (is_prefix q p) (is_prefix p q) refl refl (kept p) }
  where
    by_tests : (p : Names) (a b : Bool) → is_prefix q p ≡ a → is_prefix p q ≡ b → kept_at new.cache p ≡ (if a then (if b then Some opened else None) else kept_at old.cache p) → (kept_at new.cache p ≡ kept_at old.cache p) ⊎ ((kept_at new.cache p ≡ None) ⊎ ((q ≡ p) × (kept_at new.cache p ≡ Some opened)))
    by_tests p true true over under e = inr (inr (is_prefix-both q p over under, e))
    by_tests p true false over under e = inr (inl e)
    by_tests p false b over under e = inl e

-- nothing is kept where all was closed
pub forgets_none : {H : Type 0} (old new : OpenCache H) (q : Names) → Forgets old q new → NoneKept new q
forgets_none old new q forgets = record { none = λ more. forgets.kept (q ++ more) ∙ cond-true (is_prefix q (q ++ more)) None (kept_at old.cache (q ++ more)) (is_prefix-append q more) }

pub keeps_forget : {H : Type 0} (old new : OpenCache H) (q : Names) (opened : Open H) → Forgets old q new → Keeps old q opened new
keeps_forget old new q opened forgets = record {
  kept = λ p. elim (forgotten (is_prefix q p) (kept_at old.cache p) (kept_at new.cache p) (forgets.kept p)) [
    | inl same ↦ inl same
    | inr none ↦ inr (inl none)
  ];
}

-- nothing is to be closed where nothing is kept
pub forgets_own : {H : Type 0} (c : OpenCache H) (up : Names) (name : Name) → NoneKept c up → Forgets c (up ++ name ∷ []) c
forgets_own {H} c up name none = record { kept = λ p. by_test p (is_prefix (up ++ name ∷ []) p) refl; places = λ place p far at. at }
  where
    by_test : (p : Names) (b : Bool) → is_prefix (up ++ name ∷ []) p ≡ b → kept_at c.cache p ≡ (if b then None else kept_at c.cache p)
    by_test p true over =
        let it = is_prefix-more (up ++ name ∷ []) p over in
        let whole : up ++ (name ∷ it.0) ≡ p = sym (it.1 ∙ append_assoc up (name ∷ []) it.0) in
        subst (λ (r : Names). kept_at c.cache r ≡ None) whole (none.none (name ∷ it.0))
    by_test p false over = refl

pub held_own : {H : Type 0} (c : OpenCache H) (held : Held H) (opened : Open H) (p : Names) → held ≡ Own opened → IsHeldAt c held p → NoneKept c p
held_own {H} c held opened p e at = subst (λ (h : Held H). IsHeldAt c h p) e at

no_value : {V : Type 0} (o : Option (KeptThere V)) → option_map (λ (k : KeptThere V). k.value) o ≡ None → o ≡ None
no_value None e = refl
no_value (Some k) e = cc

none_below : {V : Type 0} (c : Cache V) (p more : Names) → kept_at c p ≡ None → kept_at c (p ++ more) ≡ None
unfolding kept_at
none_below {V} c p more none =
    let gone = no_value (reached (found c.entries) c.root p) none in
    ap (λ (o : Option (KeptThere V)). option_map (λ (k : KeptThere V). k.value) o) (reached-append (found c.entries) c.root p more ∙ (ap (λ (o : Option (KeptThere V)). walk (found c.entries) o more) gone ∙ walk-none (found c.entries) more))

-- nothing is kept below a place at which nothing is
pub kept_none : {H : Type 0} (c : OpenCache H) (names : Names) (k : ℕ) → k < length names → kept_at c.cache (take (k + 1) names) ≡ None → NoneKept c names
kept_none {H} c names k within none = record {
  none = λ more.
      let whole : take (k + 1) names ++ (drop (k + 1) names ++ more) ≡ names ++ more = sym (append_assoc (take (k + 1) names) (drop (k + 1) names) more) ∙ ap (λ (q : Names). q ++ more) (take-append-drop (k + 1) names) in
      subst (λ (q : Names). kept_at c.cache q ≡ None) whole (none_below c.cache (take (k + 1) names) (drop (k + 1) names ++ more) none);
}

none_kept_below : {H : Type 0} (c : OpenCache H) (up : Names) (name : Name) (p : Names) → NoneKept c up → is_prefix (up ++ name ∷ []) p ≡ true → kept_at c.cache p ≡ None
none_kept_below {H} c up name p none over =
    let it = is_prefix-more (up ++ name ∷ []) p over in
    let whole : up ++ (name ∷ it.0) ≡ p = sym (it.1 ∙ append_assoc up (name ∷ []) it.0) in
    subst (λ (r : Names). kept_at c.cache r ≡ None) whole (none.none (name ∷ it.0))

-- the source is closed, and nothing was kept where it goes
pub relocated_source : {H : Type 0} (old new : OpenCache H) (s above : Names) (name : Name) → Forgets old s new → NoneKept old above → IsRelocated (kept_at old.cache) s (above ++ name ∷ []) (kept_at new.cache)
relocated_source {H} old new s above name forgets none = record { cases = inr (λ p. by_test p (is_prefix (above ++ name ∷ []) p) refl) }
  where
    by_test : (p : Names) (b : Bool) → is_prefix (above ++ name ∷ []) p ≡ b → kept_at new.cache p ≡ (if b then None else without_all (kept_at old.cache) s p)
    by_test p true over = elim (forgotten (is_prefix s p) (kept_at old.cache p) (kept_at new.cache p) (forgets.kept p)) [
      | inl same ↦ same ∙ none_kept_below old above name p none over
      | inr gone ↦ gone
    ]
    by_test p false far = forgets.kept p

-- what was kept where it goes is closed, and nothing was kept where it was
pub relocated_target : {H : Type 0} (old new : OpenCache H) (up : Names) (name : Name) (t : Names) → Forgets old t new → NoneKept old up → IsRelocated (kept_at old.cache) (up ++ name ∷ []) t (kept_at new.cache)
relocated_target {H} old new up name t forgets none = record { cases = inr (λ p. by_tests p (is_prefix t p) (is_prefix (up ++ name ∷ []) p) refl (forgets.kept p)) }
  where
    by_tests : (p : Names) (a b : Bool) → is_prefix (up ++ name ∷ []) p ≡ b → kept_at new.cache p ≡ (if a then None else kept_at old.cache p) → kept_at new.cache p ≡ (if a then None else (if b then None else kept_at old.cache p))
    by_tests p true b over e = e
    by_tests p false true over e = e ∙ none_kept_below old up name p none over
    by_tests p false false over e = e

-- what was kept where it goes is closed, and nothing was kept at it
pub relocated_none : {H : Type 0} (old new : OpenCache H) (s t : Names) → Forgets old t new → NoneKept old s → IsRelocated (kept_at old.cache) s t (kept_at new.cache)
relocated_none {H} old new s t forgets none = record { cases = inr (λ p. by_tests p (is_prefix t p) (is_prefix s p) refl (forgets.kept p)) }
  where
    by_tests : (p : Names) (a b : Bool) → is_prefix s p ≡ b → kept_at new.cache p ≡ (if a then None else kept_at old.cache p) → kept_at new.cache p ≡ (if a then None else (if b then None else kept_at old.cache p))
    by_tests p true b over e = e
    by_tests p false true over e = let it = is_prefix-more s p over in e ∙ (ap (λ (q : Names). kept_at old.cache q) it.1 ∙ none.none it.0)
    by_tests p false false over e = e

-- a name is not found, and nothing is kept at the path
pub not_found : {H : Type 0} (mid new : OpenCache H) (names : Names) (k : ℕ) (name : Name) → k < length names → name ≡ get_or names k name → ((p : Names) → kept_at new.cache p ≡ kept_at mid.cache p) → kept_at mid.cache (take k names ++ name ∷ []) ≡ None → NoneKept new names
not_found {H} mid new names k name within is same none =
    let whole : take k names ++ name ∷ [] ≡ take (k + 1) names = ap (λ (n : Name). take k names ++ n ∷ []) is ∙ sym (take_more names k name within) in
    kept_none new names k within (same (take (k + 1) names) ∙ subst (λ (q : Names). kept_at mid.cache q ≡ None) whole none)

-- nothing is kept at a path, nor below it
pub none_at : {H : Type 0} (old new : OpenCache H) (q : Names) → ((p : Names) → kept_at new.cache p ≡ kept_at old.cache p) → kept_at old.cache q ≡ None → NoneKept new q
none_at {H} old new q same none = record { none = λ more. same (q ++ more) ∙ none_below old.cache q more none }

pub if_none_at : {H A : Type 0} (found : Option A) (old new : OpenCache H) (q : Names) → ((p : Names) → kept_at new.cache p ≡ kept_at old.cache p) → IfNone found (kept_at old.cache q ≡ None) → IfNone found (NoneKept new q)
if_none_at {H} (Some a) old new q same none = tt
if_none_at {H} None old new q same none = none_at old new q same none
