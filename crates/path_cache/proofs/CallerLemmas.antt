-- What a caller's proof cites of the words in `specs/Cache.antt`.
use Rattle.std.proofs.Common.{◌≡◌, ℕ, ◌⊎◌, inl, inr, true, false, cond, [], ◌∷◌, ◌++◌, length, drop, Option, Some, None, refl, sym, ap, ◌∙◌, subst}
use Rattle.std.specs.Option.{option_map, is_some, IsSome}
use Rattle.std.proofs.lemmas.Bool.{cases_Bool, cond-true, cond-false}
use Rattle.std.proofs.lemmas.Option.{none-some, same_Some}
use Rattle.paths.specs.Prefixes.{Name, Names, is_prefix}
use Rattle.paths.proofs.PrefixLemmas.{is_prefix-append, is_prefix-both, is_prefix-same, drop-append}
use Rattle.path_cache.specs.declared.entries.Entry.{Entry}
use Rattle.path_cache.specs.declared.places.Place.{Place}
use Rattle.path_cache.specs.declared.places.Place.TheVariants as place
use Rattle.path_cache.specs.Walks.{Kept, walk, reached}
use Rattle.path_cache.specs.Entries.{kept_of, entry_in, found}
use Rattle.path_cache.specs.Cache.{Cache, kept_at, number_at, value_at, IsAt, IsChild, with_value, without_all, root_alone, at_root, relocated, IsRelocated}
use Rattle.path_cache.proofs.Changing.{prefix_cases}
use Rattle.path_cache.proofs.Caching.{entry_at, number_some}
use Rattle.path_cache.proofs.Leaving.{kept_root}
use Rattle.path_cache.proofs.Walking.{reached-append}

-- ---- places

pub root_at : {V : Type 0} (c : Cache V) → IsAt c place.Root []
root_at c = record { leads = refl }

kept_value : {V : Type 0} (o : Option (Entry V)) → option_map (λ (e : Entry V). e.value) o ≡ option_map (λ (k : Kept V). k.value) (option_map kept_of o)
kept_value None = refl
kept_value (Some e) = refl

child_value : {V : Type 0} (c : Cache V) (n : ℕ) (name : Name) → option_map (λ (e : Entry V). e.value) (entry_in c.entries n name) ≡ option_map (λ (k : Kept V). k.value) (found c.entries n name)
unfolding found
child_value c n name = kept_value (entry_in c.entries n name)

-- an entry at the path of a child is found by the folder's number and the name
child_found : {V : Type 0} (c : Cache V) (parent : ℕ) (name : Name) (number : ℕ) (path : Names) → IsChild c parent name number path → reached (found c.entries) c.root path ≡ found c.entries parent name
unfolding number_at
child_found c parent name number path child =
    let (u, at, same) = number_some (reached (found c.entries) c.root child.up) parent child.above in
    ap (reached (found c.entries) c.root) child.whole
    ∙ (reached-append (found c.entries) c.root child.up (name ∷ [])
    ∙ (ap (λ o. walk (found c.entries) o (name ∷ [])) at ∙ ap (λ n. found c.entries n name) same))

child_kept : {V : Type 0} (c : Cache V) (parent : ℕ) (name : Name) (number : ℕ) (path : Names) → IsChild c parent name number path → kept_at c path ≡ option_map (λ (k : Kept V). k.value) (found c.entries parent name)
unfolding kept_at
child_kept c parent name number path child = ap (option_map (λ k. k.value)) (child_found c parent name number path child)

-- what is kept at the path of a place is what `value` gives there
pub value_here : {V : Type 0} (c : Cache V) (p : Place) (path : Names) → IsAt c p path → value_at c p ≡ kept_at c path
unfolding value_at
value_here c place.Root path is = sym (ap (kept_at c) is.leads ∙ kept_root c)
value_here c (place.Child parent name number) path is = child_value c parent name.now ∙ sym (child_kept c parent name.now number path is.leads)

some_kept : {V : Type 0} (o : Option (Kept V)) (u : Kept V) → o ≡ Some u → IsSome (option_map (λ (k : Kept V). k.value) o)
some_kept {V} o u at = ap (λ (x : Option (Kept V)). is_some (option_map (λ k. k.value) x)) at

-- something is kept at the path of a place
pub kept_here : {V : Type 0} (c : Cache V) (p : Place) (path : Names) → IsAt c p path → IsSome (kept_at c path)
unfolding kept_at
kept_here c p path is = let (u, at, number) = entry_at c p path is in some_kept (reached (found c.entries) c.root path) u at

-- so `value` may be called
pub has_value : {V : Type 0} (c : Cache V) (p : Place) (path : Names) → IsAt c p path → IsSome (value_at c p)
has_value {V} c p path is = subst (λ (o : Option V). IsSome o) (sym (value_here c p path is)) (kept_here c p path is)

-- ---- what is kept after a call was kept before, where it was

-- a value that was kept, and the others
pub with_value-cases : {V : Type 0} (kept : Names → Option V) (path : Names) (value : V) (p : Names) (w : V) → with_value kept path value p ≡ Some w
    → ((path ≡ p) × (value ≡ w)) ⊎ ((is_prefix path p ≡ false) × (kept p ≡ Some w))
with_value-cases {V} kept path value p w h = elim (cases_Bool (is_prefix path p)) [
  | inl below ↦
      let here : cond (is_prefix p path) (Some value) None ≡ Some w = sym (cond-true (is_prefix path p) (cond (is_prefix p path) (Some value) None) (kept p) below) ∙ h in
      elim (cases_Bool (is_prefix p path)) [
        | inl above ↦ inl (is_prefix-both path p below above, same_Some value w (sym (cond-true (is_prefix p path) (Some value) None above) ∙ here))
        | inr deeper ↦ absurd (none-some w (sym (cond-false (is_prefix p path) (Some value) None deeper) ∙ here))
      ]
  | inr far ↦ inr (far, sym (cond-false (is_prefix path p) (cond (is_prefix p path) (Some value) None) (kept p) far) ∙ h)
]

pub with_value-here : {V : Type 0} (kept : Names → Option V) (path : Names) (value : V) → with_value kept path value path ≡ Some value
with_value-here kept path value =
    cond-true (is_prefix path path) (cond (is_prefix path path) (Some value) None) (kept path) (is_prefix-same path)
    ∙ cond-true (is_prefix path path) (Some value) None (is_prefix-same path)

pub with_value-far : {V : Type 0} (kept : Names → Option V) (path : Names) (value : V) (p : Names) → is_prefix path p ≡ false → with_value kept path value p ≡ kept p
with_value-far kept path value p far = cond-false (is_prefix path p) (cond (is_prefix p path) (Some value) None) (kept p) far

pub without_all-cases : {V : Type 0} (kept : Names → Option V) (path p : Names) (w : V) → without_all kept path p ≡ Some w → (is_prefix path p ≡ false) × (kept p ≡ Some w)
without_all-cases kept path p w h = elim (cases_Bool (is_prefix path p)) [
  | inl below ↦ absurd (none-some w (sym (cond-true (is_prefix path p) None (kept p) below) ∙ h))
  | inr far ↦ (far, sym (cond-false (is_prefix path p) None (kept p) far) ∙ h)
]

pub without_all-far : {V : Type 0} (kept : Names → Option V) (path p : Names) → is_prefix path p ≡ false → without_all kept path p ≡ kept p
without_all-far kept path p far = cond-false (is_prefix path p) None (kept p) far

pub root_alone-cases : {V : Type 0} (kept : Names → Option V) (p : Names) (w : V) → root_alone kept p ≡ Some w → (p ≡ []) × (kept p ≡ Some w)
root_alone-cases kept [] w h = (refl, h)
root_alone-cases kept (x ∷ p) w h = absurd (none-some w h)

pub at_root-cases : {V : Type 0} (root : V) (p : Names) (w : V) → at_root root p ≡ Some w → (p ≡ []) × (root ≡ w)
at_root-cases root [] w h = (refl, same_Some root w h)
at_root-cases root (x ∷ p) w h = absurd (none-some w h)

relocated-cases : {V : Type 0} (kept : Names → Option V) (s t p : Names) (w : V) → relocated kept s t p ≡ Some w
    → ((more : Names) × (p ≡ t ++ more) × (kept (s ++ more) ≡ Some w)) ⊎ ((is_prefix t p ≡ false) × (is_prefix s p ≡ false) × (kept p ≡ Some w))
relocated-cases {V} kept s t p w h = elim (prefix_cases t p) [
  | inl (more, whole) ↦
      let below : is_prefix t p ≡ true = ap (is_prefix t) whole ∙ is_prefix-append t more in
      let there : kept (s ++ drop (length t) p) ≡ Some w = sym (cond-true (is_prefix t p) (kept (s ++ drop (length t) p)) (cond (is_prefix s p) None (kept p)) below) ∙ h in
      inl (more, whole, ap (λ (q : Names). kept (s ++ q)) (sym (ap (drop (length t)) whole ∙ drop-append t more)) ∙ there)
  | inr far ↦
      let rest : cond (is_prefix s p) None (kept p) ≡ Some w = sym (cond-false (is_prefix t p) (kept (s ++ drop (length t) p)) (cond (is_prefix s p) None (kept p)) far) ∙ h in
      let was = without_all-cases kept s p w rest in
      inr (far, was.0, was.1)
]

-- what is kept after a relocation was kept below the one path, or is elsewhere and was there
pub IsRelocated-cases : {V : Type 0} (old new : Names → Option V) (s t p : Names) (w : V) → IsRelocated old s t new → new p ≡ Some w
    → ((more : Names) × (p ≡ t ++ more) × (old (s ++ more) ≡ Some w)) ⊎ ((is_prefix t p ≡ false) × (is_prefix s p ≡ false) × (old p ≡ Some w))
IsRelocated-cases old new s t p w moved h = elim moved.cases [
  | inl there ↦ relocated-cases old s t p w (sym (there p) ∙ h)
  | inr lost ↦
      let one = without_all-cases (without_all old s) t p w (sym (lost p) ∙ h) in
      let two = without_all-cases old s p w one.1 in
      inr (one.0, two.0, two.1)
]
