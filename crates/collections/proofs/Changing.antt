-- A sum after one key was added, removed or changed, as a running counter needs it.
use Rattle.std.proofs.Common.{ℕ, ◌+◌, ◌-◌, ◌<◌, ◌≤◌, ◌≡◌, ◌≢◌, ◌==◌, true, false, if◌then◌else◌, List, [], ◌∷◌, Option, Some, None, AllPairs, Contains, is_some, length, get_or, refl, sym, ap, ◌∙◌, subst, inl, inr, arith}
use Rattle.std.specs.Prelude.{option_map, sum_by, unwrap_or}
use Rattle.std.specs.List.{remove}
use Rattle.std.proofs.lemmas.Bool.{cases_eq, cases_lt, cond-false, cond-true, eq-eqb, ne_eqb}
use Rattle.std.proofs.lemmas.List.{get_or_default}
use Rattle.std.proofs.lemmas.List.Edits.{get_or-remove_above, get_or-remove_below, length-remove}
use Rattle.std.proofs.lemmas.List.Quantifiers.{all_pairs_remove}
use Rattle.std.proofs.lemmas.List.Sums.{sum_by-cons, sum_by-remove}
use mathlib.Core.Path.{fun_ext}
use Rattle.collections.specs.Sum.{IsSum}
use Rattle.collections.proofs.Members.{apart_cons, cases_in, first_in, later_in}

true_false : true ≡ false → ⊥
true_false e = cc

-- if all members have equal weights, the sums are equal
sum_same : (f g : ℕ → ℕ) (ks : List ℕ) → ((k : ℕ) → Contains ks k → f k ≡ g k) → sum_by f ks ≡ sum_by g ks
sum_same f g [] same = refl
sum_same f g (k ∷ ks) same = let one = same k (first_in k ks) in let more = sum_same f g ks (λ j h. same j (later_in k ks j h)) in omega (arith, one, more, sum_by-cons f k ks, sum_by-cons g k ks)

-- what is in a list is in it without another element, and the other way round
in_remove : (ys : List ℕ) (i x y : ℕ) → i < length ys → get_or ys i x ≡ x → x ≢ y → Contains ys y → Contains (remove ys i) y
in_remove ys i x y inside e ne (k, within, is) =
    let shorter = length-remove ys i inside in
    elim (cases_lt k i) [
      | inl before ↦ (k, omega arith, get_or-remove_below ys i y k before inside ∙ is)
      | inr later ↦ elim (cases_eq k i) [
        | inl same ↦ absurd (ne (sym e ∙ (get_or_default ys i x y inside ∙ (ap (λ j. get_or ys j y) (sym same) ∙ is))))
        | inr other ↦
            let back : k - 1 + 1 ≡ k = omega arith in
            (k - 1, omega arith, get_or-remove_above ys i y (k - 1) (omega arith) inside ∙ (ap (λ j. get_or ys j y) back ∙ is))
      ]
    ]

was_in : (ys : List ℕ) (i y : ℕ) → i < length ys → Contains (remove ys i) y → Contains ys y
was_in ys i y inside (k, within, is) =
    let shorter = length-remove ys i inside in
    elim (cases_lt k i) [
      | inl before ↦ (k, omega arith, sym (get_or-remove_below ys i y k before inside) ∙ is)
      | inr later ↦ (k + 1, omega arith, sym (get_or-remove_above ys i y k (omega arith) inside) ∙ is)
    ]

-- what is removed from distinct keys is no longer among them
out_of : (ys : List ℕ) (i y : ℕ) → AllPairs (λ j k. j ≢ k) ys → i < length ys → Contains (remove ys i) y → get_or ys i y ≢ y
out_of ys i y apart inside (k, within, is) same =
    let shorter = length-remove ys i inside in
    elim (cases_lt k i) [
      | inl before ↦ apart k i y before inside (sym (get_or-remove_below ys i y k before inside) ∙ is ∙ sym same)
      | inr later ↦ apart i (k + 1) y (omega arith) (omega arith) (same ∙ sym is ∙ get_or-remove_above ys i y k (omega arith) inside)
    ]

module _ {X : Type 0} (at : ℕ → Option X) (weight : X → ℕ) (n : ℕ) where
  abbrev weigh : (ℕ → Option X) → ℕ → ℕ
  weigh a k = unwrap_or (option_map weight (a k)) 0

  abbrev gone : ℕ → Option X
  gone = λ m. if n == m then None else at m

  abbrev come : X → ℕ → Option X
  come y = λ m. if n == m then Some y else at m

  gone_same : gone n ≡ None
  gone_same = cond-true (n == n) None (at n) (eq-eqb n n refl)

  gone_other : (m : ℕ) → n ≢ m → gone m ≡ at m
  gone_other m ne = cond-false (n == m) None (at m) (ne_eqb n m ne)

  come_same : (y : X) → come y n ≡ Some y
  come_same y = cond-true (n == n) (Some y) (at n) (eq-eqb n n refl)

  come_other : (y : X) (m : ℕ) → n ≢ m → come y m ≡ at m
  come_other y m ne = cond-false (n == m) (Some y) (at m) (ne_eqb n m ne)

  -- the sum after n is removed
  pub sum_without : (x : X) (s t : ℕ) → at n ≡ Some x → IsSum at weight s → t + weight x ≡ s → IsSum gone weight t
  sum_without x s t here sum less =
      let it = (sum.exact n).1 (ap (λ (o : Option X). is_some o) here) in
      let ks = sum.keys in
      let i = it.0 in
      let rest = remove ks i in
      let named : get_or ks i n ≡ n = it.2 in
      let other : (k : ℕ) → Contains rest k → n ≢ k = λ k h e. out_of ks i k sum.apart it.1 h (subst (λ j. get_or ks i j ≡ j) e named) in
      let whole : sum_by (weigh at) rest + weigh at (get_or ks i n) ≡ sum_by (weigh at) ks = sum_by-remove (weigh at) ks i n it.1 in
      let mine : weigh at (get_or ks i n) ≡ weight x = ap (weigh at) named ∙ ap (λ (o : Option X). unwrap_or (option_map weight o) 0) here in
      let same : sum_by (weigh gone) rest ≡ sum_by (weigh at) rest = sum_same (weigh gone) (weigh at) rest (λ k h. ap (λ (o : Option X). unwrap_or (option_map weight o) 0) (gone_other k (other k h))) in
      let total = sum.total_is in
      record {
        keys = rest;
        apart = all_pairs_remove (λ j k. j ≢ k) ks i it.1 sum.apart;
        exact = λ k. (
          λ h. ap (λ (o : Option X). is_some o) (gone_other k (other k h)) ∙ (sum.exact k).0 (was_in ks i k it.1 h),
          λ h. elim (cases_eq n k) [
            | inl e ↦ absurd (true_false (sym h ∙ ap (λ (o : Option X). is_some o) (subst (λ m. gone m ≡ None) e gone_same)))
            | inr ne ↦ in_remove ks i n k it.1 named ne ((sum.exact k).1 (sym (ap (λ (o : Option X). is_some o) (gone_other k ne)) ∙ h))
          ],
        );
        total_is = omega arith;
      }

  -- the sum after n is added
  pub sum_with : (y : X) (s : ℕ) → at n ≡ None → IsSum at weight s → IsSum (come y) weight (s + weight y)
  sum_with y s none sum =
      let ks = sum.keys in
      let other : (k : ℕ) → Contains ks k → n ≢ k = λ k h e. true_false (sym ((sum.exact k).0 h) ∙ ap (λ (o : Option X). is_some o) (subst (λ m. at m ≡ None) e none)) in
      let same : sum_by (weigh (come y)) ks ≡ sum_by (weigh at) ks = sum_same (weigh (come y)) (weigh at) ks (λ k h. ap (λ (o : Option X). unwrap_or (option_map weight o) 0) (come_other y k (other k h))) in
      let mine : weigh (come y) n ≡ weight y = ap (λ (o : Option X). unwrap_or (option_map weight o) 0) (come_same y) in
      let all = sum_by-cons (weigh (come y)) n ks in
      let total = sum.total_is in
      record {
        keys = n ∷ ks;
        apart = apart_cons n ks sum.apart other;
        exact = λ k. (
          λ h. elim (cases_in n ks k h) [
            | inl e ↦ ap (λ (o : Option X). is_some o) (subst (λ m. come y m ≡ Some y) e (come_same y))
            | inr later ↦ ap (λ (o : Option X). is_some o) (come_other y k (other k later)) ∙ (sum.exact k).0 later
          ],
          λ h. elim (cases_eq n k) [
            | inl e ↦ subst (λ m. Contains (n ∷ ks) m) e (first_in n ks)
            | inr ne ↦ later_in n ks k ((sum.exact k).1 (sym (ap (λ (o : Option X). is_some o) (come_other y k ne)) ∙ h))
          ],
        );
        total_is = omega arith;
      }

-- the weight of one element is part of the sum
pub part_of_sum : {X : Type 0} (at : ℕ → Option X) (weight : X → ℕ) (n : ℕ) (x : X) (s : ℕ) → at n ≡ Some x → IsSum at weight s → weight x ≤ s
part_of_sum {X} at weight n x s here sum =
    let it = (sum.exact n).1 (ap (λ (o : Option X). is_some o) here) in
    let f : ℕ → ℕ = λ k. unwrap_or (option_map weight (at k)) 0 in
    let whole = sum_by-remove f sum.keys it.0 n it.1 in
    let mine : f (get_or sum.keys it.0 n) ≡ weight x = ap f it.2 ∙ ap (λ (o : Option X). unwrap_or (option_map weight o) 0) here in
    let total = sum.total_is in
    omega arith

gone_here : {X : Type 0} (at : ℕ → Option X) (n : ℕ) (y : X) (m : ℕ) → (if n == m then Some y else (if n == m then None else at m)) ≡ (if n == m then Some y else at m)
gone_here at n y m = elim (cases_eq n m) [
  | inl e ↦ cond-true (n == m) (Some y) (if n == m then None else at m) (eq-eqb n m e) ∙ sym (cond-true (n == m) (Some y) (at m) (eq-eqb n m e))
  | inr ne ↦ cond-false (n == m) (Some y) (if n == m then None else at m) (ne_eqb n m ne) ∙ (cond-false (n == m) None (at m) (ne_eqb n m ne) ∙ sym (cond-false (n == m) (Some y) (at m) (ne_eqb n m ne)))
]

gone_then : {X : Type 0} (at : ℕ → Option X) (n : ℕ) (y : X) → ◌≡◌ {A = ℕ → Option X} (λ m. if n == m then Some y else (if n == m then None else at m)) (λ m. if n == m then Some y else at m)
gone_then at n y = fun_ext (gone_here at n y)

-- the sum after the value of n changes
pub sum_changed : {X : Type 0} (at : ℕ → Option X) (weight : X → ℕ) (n : ℕ) (x y : X) (s t : ℕ) → at n ≡ Some x → IsSum at weight s → t + weight x ≡ s + weight y → IsSum (λ m. if n == m then Some y else at m) weight t
sum_changed {X} at weight n x y s t here sum more =
    let gone : ℕ → Option X = λ m. if n == m then None else at m in
    let left : ℕ = t - weight y in
    let bound : weight x ≤ s = part_of_sum at weight n x s here sum in
    let without : IsSum gone weight left = sum_without at weight n x s left here sum (omega arith) in
    let none : gone n ≡ None = cond-true (n == n) None (at n) (eq-eqb n n refl) in
    let again = gone_then at n y in
    let e : left + weight y ≡ t = omega arith in
    subst (λ (k : ℕ). IsSum (λ m. if n == m then Some y else at m) weight k) e (subst (λ (a : ℕ → Option X). IsSum a weight (left + weight y)) again (sum_with gone weight n y left none without))
