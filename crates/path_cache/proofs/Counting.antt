-- How many entries there are after one was promoted, put or taken out.
use Rattle.std.proofs.Common.{◌≡◌, ◌+◌, ◌-◌, ◌≤◌, Bool, inl, inr, List, [], ◌∷◌, length, take, Option, Some, None, refl, sym, ap, ◌∙◌, arith, length-take}
use Rattle.std.specs.Option.{option_map, option_map_or}
use Rattle.std.specs.Map.{lookup, lookup_entry, remove_entry}
use Rattle.std.proofs.lemmas.Bool.{cases_Bool, cond-true, cond-false}
use Rattle.lru.specs.LruCache.{LruCache, promoted, put_entries}
use Rattle.lru.proofs.Pairs.{lookup-lookup_entry}
use Rattle.path_cache.specs.Entries.{weight}

module _ {K V : Type 0} (test : K → Bool) where
  pub length-removed : (es : List (K × V)) → length (remove_entry test es) + weight (lookup test es) ≡ length es
  length-removed [] = refl
  length-removed (e ∷ es) = elim (cases_Bool (test e.0)) [
    | inl yes_e ↦
        let rest : remove_entry test (e ∷ es) ≡ es = cond-true (test e.0) es (e ∷ remove_entry test es) yes_e in
        let one : lookup test (e ∷ es) ≡ Some e.1 = cond-true (test e.0) (Some e.1) (lookup test es) yes_e in
        omega (arith, ap length rest, ap weight one)
    | inr no_e ↦
        let rest : remove_entry test (e ∷ es) ≡ e ∷ remove_entry test es = cond-false (test e.0) es (e ∷ remove_entry test es) no_e in
        let later : lookup test (e ∷ es) ≡ lookup test es = cond-false (test e.0) (Some e.1) (lookup test es) no_e in
        omega (arith, ap length rest, ap weight later, length-removed es)
  ]

  first : (es : List (K × V)) (f : K × V) → lookup_entry test es ≡ Some f → weight (lookup test es) ≡ 1
  first es f h = ap weight (sym (lookup-lookup_entry test es) ∙ ap (option_map (λ (e : K × V). e.1)) h)

  promoted_of : (es : List (K × V)) (o : Option (K × V)) → lookup_entry test es ≡ o → length (option_map_or (λ e. e ∷ remove_entry test es) o es) ≡ length es
  promoted_of es None h = refl
  promoted_of es (Some f) h = omega (arith, length-removed es, first es f h)

  pub length-promoted : (es : List (K × V)) → length (promoted test es) ≡ length es
  length-promoted es = promoted_of es (lookup_entry test es) refl

module _ {K V : Type 0} (eq : K → K → Bool) (c : LruCache K V) (k : K) (v : V) where
  put_of : (o : Option (K × V)) → lookup_entry (eq k) c.entries ≡ o → length (option_map_or (λ (e : K × V). (e.0, v) ∷ remove_entry (eq k) c.entries) o ((k, v) ∷ take (c.cap - 1) c.entries)) ≤ length c.entries + 1
  put_of None h = omega (arith, length-take (c.cap - 1) c.entries)
  put_of (Some e) h = omega (arith, length-removed (eq k) c.entries)

  pub length-put : length (put_entries eq c k v) ≤ length c.entries + 1
  length-put = put_of (lookup_entry (eq k) c.entries) refl
