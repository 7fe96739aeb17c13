-- The sum over a list in which no two elements have the same key.
use Rattle.std.proofs.Common.{ℕ, suc, ◌<◌, ◌≡◌, ◌≢◌, ◌==◌, true, false, List, [], ◌∷◌, Option, Some, None, AllPairs, Contains, length, get_or, refl, sym, ap, ◌∙◌, subst, inl, inr, arith}
use Rattle.std.specs.Prelude.{find, is_some, option_map, sum_by, unwrap_or}
use Rattle.std.proofs.lemmas.Bool.{cases_eq, cond-false, cond-true, eq-eqb, ne_eqb}
use Rattle.std.proofs.lemmas.List.Sums.{sum_by-cons}
use Rattle.collections.specs.Sum.{IsSum}
use Rattle.collections.proofs.Members.{apart_cons, cases_in, first_in, later_in, none_in}

false_true : false ≡ true → ⊥
false_true e = cc

-- if all members have equal weights, the sums are equal
sum_same : (f g : ℕ → ℕ) (ks : List ℕ) → ((k : ℕ) → Contains ks k → f k ≡ g k) → sum_by f ks ≡ sum_by g ks
sum_same f g [] same = refl
sum_same f g (k ∷ ks) same = let one = same k (first_in k ks) in let more = sum_same f g ks (λ j h. same j (later_in k ks j h)) in omega (arith, one, more, sum_by-cons f k ks, sum_by-cons g k ks)

module _ {X : Type 0} (key : X → ℕ) (weight : X → ℕ) where
  abbrev found : List X → ℕ → Option X
  found xs n = find (λ x. key x == n) xs

  found_first : (x : X) (xs : List X) (n : ℕ) → key x ≡ n → found (x ∷ xs) n ≡ Some x
  found_first x xs n e = cond-true (key x == n) (Some x) (found xs n) (eq-eqb (key x) n e)

  found_later : (x : X) (xs : List X) (n : ℕ) → key x ≢ n → found (x ∷ xs) n ≡ found xs n
  found_later x xs n ne = cond-false (key x == n) (Some x) (found xs n) (ne_eqb (key x) n ne)

  not_found : (xs : List X) (n : ℕ) → ((j : ℕ) (d : X) → j < length xs → key (get_or xs j d) ≢ n) → found xs n ≡ None
  not_found [] n other = refl
  not_found (x ∷ xs) n other = found_later x xs n (other 0 x (omega arith)) ∙ not_found xs n (λ j d within. other (suc j) d (omega arith))

  pub sum_listed : (xs : List X) → AllPairs (λ y z. key y ≢ key z) xs → IsSum (found xs) weight (sum_by weight xs)
  sum_listed [] apart = record {
    keys = [];
    apart = λ i j d before within. absurd (omega arith);
    exact = λ k. (λ h. absurd (none_in k h), λ h. absurd (false_true h));
    total_is = refl;
  }
  sum_listed (x ∷ xs) apart =
      let rest = sum_listed xs (λ i j d before within. apart (suc i) (suc j) d (omega arith) (omega arith)) in
      let gone : found xs (key x) ≡ None = not_found xs (key x) (λ j d within e. apart 0 (suc j) d (omega arith) (omega arith) (sym e)) in
      let other : (k : ℕ) → Contains rest.keys k → key x ≢ k = λ k h e. false_true (sym (ap (λ (o : Option X). is_some o) (ap (found xs) (sym e) ∙ gone)) ∙ (rest.exact k).0 h) in
      let f : ℕ → ℕ = λ k. unwrap_or (option_map weight (found (x ∷ xs) k)) 0 in
      let g : ℕ → ℕ = λ k. unwrap_or (option_map weight (found xs k)) 0 in
      let weighs : Option X → ℕ = λ o. unwrap_or (option_map weight o) 0 in
      let head : f (key x) ≡ weight x = ap weighs (found_first x xs (key x) refl) in
      let tail : sum_by f rest.keys ≡ sum_by g rest.keys = sum_same f g rest.keys (λ k h. ap weighs (found_later x xs k (other k h))) in
      let total = rest.total_is in
      record {
        keys = key x ∷ rest.keys;
        apart = apart_cons (key x) rest.keys rest.apart other;
        exact = λ k. (
          λ h. elim (cases_in (key x) rest.keys k h) [
            | inl e ↦ ap (λ (o : Option X). is_some o) (found_first x xs k e)
            | inr later ↦ ap (λ (o : Option X). is_some o) (found_later x xs k (other k later)) ∙ (rest.exact k).0 later
          ],
          λ h. elim (cases_eq (key x) k) [
            | inl e ↦ subst (λ j. Contains (key x ∷ rest.keys) j) e (first_in (key x) rest.keys)
            | inr ne ↦ later_in (key x) rest.keys k ((rest.exact k).1 (sym (ap (λ (o : Option X). is_some o) (found_later x xs k ne)) ∙ h))
          ],
        );
        total_is = omega (arith, head, tail, total, sum_by-cons weight x xs, sum_by-cons f (key x) rest.keys);
      }
