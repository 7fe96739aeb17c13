-- What a look-up finds in a list of entries, and how many of them have a value.
use Rattle.std.proofs.Common.{ℕ, zero, suc, ◌+◌, ◌<◌, ◌≤◌, ◌≡◌, Bool, true, false, List, [], ◌∷◌, Option, Some, None, length, get_or, take, is_some, refl, sym, ap, inl, inr, arith}
use Rattle.std.specs.Map.{lookup, set_value}
use Rattle.std.specs.Prelude.{if◌then◌else◌}
use Rattle.std.specs.declared.cmp.PartialEq as eq
use Rattle.std.specs.declared.hash.Hash as hash
use Rattle.std.specs.declared.hash.Hasher as hasher
use Rattle.std.specs.declared.hash.BuildHasher as builder
use Rattle.indexmap.specs.Entry.{entry_map, entry_value, map_with_value}
use Rattle.indexmap.specs.declared.map.entry.Entry.TheVariants.{Occupied, Vacant}
use Rattle.indexmap.specs.IndexMap.{IndexMap, index_map_len, insert_entry, KeepsRoom}
use Rattle.indexmap.specs.declared.map.entry.Entry.{Entry}
use Rattle.std.proofs.lemmas.Bool.{cases_Bool}
use Rattle.std.proofs.lemmas.Option.{none-some, same_Some}
use Rattle.std.proofs.lemmas.List.Sums.{sum_by-cons}
use Rattle.collections.specs.Living.{joined, weight, living, places}

module _ {V : Type 0} where
  pub weight_some : (o : Option V) → is_some o ≡ true → weight o ≡ 1
  weight_some None h = absurd (let bad : false ≡ true = h in cc)
  weight_some (Some v) h = refl

  weightless : (o : Option V) → weight o ≡ 0 → o ≡ None
  weightless None h = refl
  weightless (Some v) h = absurd (omega (arith, h))

module _ {K V : Type 0} where
  cons : (e : K × Option V) (es : List (K × Option V)) → living (e ∷ es) ≡ weight e.1 + living es
  cons e es = sum_by-cons (λ (x : K × Option V). weight x.1) e es

  -- the number of values after a write to an existing entry
  pub living_set : (t : K → Bool) (es : List (K × Option V)) (w o : Option V) → lookup t es ≡ Some o → living (set_value t es w) + weight o ≡ living es + weight w
  living_set t [] w o h = absurd (none-some o h)
  living_set t (e ∷ es) w o h = elim (cases_Bool (t e.0)) [
    | inl hit ↦
        let same : e.1 ≡ o = same_Some e.1 o (rw hit at h) in
        let counted : weight e.1 ≡ weight o = ap weight same in
        rw hit (omega (arith, counted, cons (e.0, w) es, cons e es))
    | inr miss ↦
        let rest = living_set t es w o (rw miss at h) in
        rw miss (omega (arith, rest, cons e (set_value t es w), cons e es))
  ]

  -- the number of values after one is put under a key, which may have an entry
  pub living_put : (eq : K → K → Bool) (es : List (K × Option V)) (k : K) (v : V) → living (insert_entry eq es k (Some v)) + weight (joined (lookup (eq k) es)) ≡ living es + 1
  living_put eq [] k v = refl
  living_put eq (e ∷ es) k v = elim (cases_Bool (eq k e.0)) [
    | inl hit ↦ rw hit (omega (arith, cons (e.0, Some v) es, cons e es))
    | inr miss ↦
        let rest = living_put eq es k v in
        rw miss (omega (arith, rest, cons e (insert_entry eq es k (Some v)), cons e es))
  ]

  -- if no entry has a value, nothing is found
  pub none_living : (t : K → Bool) (es : List (K × Option V)) → living es ≡ 0 → joined (lookup t es) ≡ None
  none_living t [] h = refl
  none_living t (e ∷ es) h = elim (cases_Bool (t e.0)) [
    | inl hit ↦ rw hit (weightless e.1 (omega (arith, h, cons e es)))
    | inr miss ↦ rw miss (none_living t es (omega (arith, h, cons e es)))
  ]

  -- only the first entries count if all later ones have no value
  pub found_kept : (t : K → Bool) (es : List (K × Option V)) (kept : ℕ) → ((j : ℕ) (d : K × Option V) → kept ≤ j → j < length es → (get_or es j d).1 ≡ None) → joined (lookup t (take kept es)) ≡ joined (lookup t es)
  found_kept t [] zero behind = refl
  found_kept t [] (suc kept) behind = refl
  found_kept t (e ∷ es) zero behind =
      let rest = found_kept t es zero (λ j d low within. behind (suc j) d (omega arith) (omega arith)) in
      let here : e.1 ≡ None = behind 0 e (omega arith) (omega arith) in
      elim (cases_Bool (t e.0)) [
        | inl hit ↦ rw hit (sym here)
        | inr miss ↦ rw miss rest
      ]
  found_kept t (e ∷ es) (suc kept) behind =
      let rest = found_kept t es kept (λ j d low within. behind (suc j) d (omega arith) (omega arith)) in
      elim (cases_Bool (t e.0)) [
        | inl hit ↦ rw hit refl
        | inr miss ↦ rw miss rest
      ]

  -- a key without an entry has none among the first ones either
  pub none_kept : (t : K → Bool) (es : List (K × Option V)) (kept : ℕ) → lookup t es ≡ None → lookup t (take kept es) ≡ None
  none_kept t [] zero h = refl
  none_kept t [] (suc kept) h = refl
  none_kept t (e ∷ es) zero h = refl
  none_kept t (e ∷ es) (suc kept) h = elim (cases_Bool (t e.0)) [
    | inl hit ↦ absurd (none-some e.1 (sym (rw hit at h)))
    | inr miss ↦ rw miss (none_kept t es kept (rw miss at h))
  ]

  -- if exactly the first kept entries have a value, there are kept values in all, and the same number among the first
  -- ones
  pub living_kept : (es : List (K × Option V)) (kept : ℕ) → kept ≤ length es → ((j : ℕ) (d : K × Option V) → j < kept → is_some (get_or es j d).1 ≡ true) → ((j : ℕ) (d : K × Option V) → kept ≤ j → j < length es → (get_or es j d).1 ≡ None) → living es ≡ kept
  living_kept [] zero within front behind = refl
  living_kept [] (suc kept) within front behind = absurd (omega arith)
  living_kept (e ∷ es) zero within front behind =
      let rest = living_kept es zero (omega arith) (λ j d low. absurd (omega arith)) (λ j d low inside. behind (suc j) d (omega arith) (omega arith)) in
      let here : weight e.1 ≡ 0 = ap weight (behind 0 e (omega arith) (omega arith)) in
      omega (arith, rest, here, cons e es)
  living_kept (e ∷ es) (suc kept) within front behind =
      let rest = living_kept es kept (omega arith) (λ j d low. front (suc j) d (omega arith)) (λ j d low inside. behind (suc j) d (omega arith) (omega arith)) in
      let here : weight e.1 ≡ 1 = weight_some e.1 (front 0 e (omega arith)) in
      omega (arith, rest, here, cons e es)

  pub living_taken : (es : List (K × Option V)) (kept : ℕ) → kept ≤ length es → ((j : ℕ) (d : K × Option V) → j < kept → is_some (get_or es j d).1 ≡ true) → living (take kept es) ≡ kept
  living_taken [] zero within front = refl
  living_taken [] (suc kept) within front = absurd (omega arith)
  living_taken (e ∷ es) zero within front = refl
  living_taken (e ∷ es) (suc kept) within front =
      let rest = living_taken es kept (omega arith) (λ j d low. front (suc j) d (omega arith)) in
      let here : weight e.1 ≡ 1 = weight_some e.1 (front 0 e (omega arith)) in
      omega (arith, rest, here, cons e (take kept es))

module _ {K V S A H : Type 0} {g : eq.Ghosts K} {h : hash.Ghosts K} {b : builder.Ghosts S H} {w : hasher.Ghosts H} where
  -- a write through an entry loses no room
  pub places_kept : (m : IndexMap K (Option V) S) (e : Entry K (Option V) S A H g h b w) (o : Option V) → KeepsRoom m (entry_map e) → index_map_len (map_with_value e o) ≡ index_map_len m + (if is_some (entry_value e) then 0 else 1) → places m ≤ places (map_with_value e o)
  unfolding map_with_value entry_value
  places_kept m (Occupied e) o kept len = elim (cases_Bool (is_some (entry_value (Occupied e)))) [
    | inl there ↦ let same = rw there at len in omega (arith, kept.0, same)
    | inr none ↦ let same = rw none at len in omega (arith, kept.0, same)
  ]
  places_kept m (Vacant e) o kept len = omega (arith, kept.0, len)
