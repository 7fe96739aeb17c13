-- Counting one more file of a node, and one less.
use Rattle.std.proofs.Common.{ℕ, ◌+◌, ◌-◌, ◌<◌, ◌≡◌, ◌≢◌, Option, Some, None, if◌then◌else◌, nat_eq, sym, ap, ◌∙◌, subst, inl, inr, arith}
use Rattle.std.specs.Prelude.{unwrap_or}
use Rattle.std.proofs.lemmas.Bool.{cases_eq, cond-false, cond-true, eq-eqb, ne_eqb}
use Rattle.std.proofs.lemmas.Option.{none-some, same_Some}
use mathlib.Core.Path.{fun_ext}
use Rattle.indexmap.specs.IndexMap.{IndexMap}
use Rattle.collections.specs.Living.{found, live}
use Rattle.collections.specs.Sum.{IsSum}
use Rattle.collections.proofs.Changing.{part_of_sum, sum_changed, sum_with, sum_without}
use Rattle.table_files.specs.Counts.{AddUpTo, openings_in}

at_number : {X : Type 0} (n m : ℕ) (x y : X) → n ≡ m → (if nat_eq n m then x else y) ≡ x
at_number n m x y e = cond-true (nat_eq n m) x y (eq-eqb n m e)

off_number : {X : Type 0} (n m : ℕ) (x y : X) → n ≢ m → (if nat_eq n m then x else y) ≡ y
off_number n m x y ne = cond-false (nat_eq n m) x y (ne_eqb n m ne)

-- a count other than 0 is found
pub of_some : (o : Option ℕ) (count : ℕ) → unwrap_or o 0 ≡ count → 0 < count → o ≡ Some count
of_some None count e more = absurd (omega (arith, e, more))
of_some (Some n) count e more = ap (λ (k : ℕ). Some k) e

-- how many open files there are besides the first one of a node
abbrev beside : ℕ → ℕ
beside count = count - 1

module _ {S : Type 0} (old new : IndexMap ℕ (Option ℕ) S) (number : ℕ) where
  abbrev before : ℕ → Option ℕ
  before = found nat_eq old

  module _ (value : ℕ) (wrote : (q : ℕ) → found nat_eq new q ≡ (if nat_eq number q then Some value else found nat_eq old q)) where
    wrote_some : 0 < value → ((n count : ℕ) → before n ≡ Some count → 0 < count) → (n count : ℕ) → found nat_eq new n ≡ Some count → 0 < count
    wrote_some more some n count there = elim (cases_eq number n) [
      | inl e ↦ let same : value ≡ count = same_Some value count (sym (wrote n ∙ at_number number n (Some value) (before n) e) ∙ there) in omega (arith, more, same)
      | inr ne ↦ some n count (sym (wrote n ∙ off_number number n (Some value) (before n) ne) ∙ there)
    ]

    -- the counts after one was written
    pub written : (n : ℕ) → openings_in new n ≡ (if nat_eq number n then value else openings_in old n)
    written n = elim (cases_eq number n) [
      | inl e ↦ ap (λ (o : Option ℕ). unwrap_or o 0) (wrote n ∙ at_number number n (Some value) (before n) e) ∙ sym (at_number number n value (openings_in old n) e)
      | inr ne ↦ ap (λ (o : Option ℕ). unwrap_or o 0) (wrote n ∙ off_number number n (Some value) (before n) ne) ∙ sym (off_number number n value (openings_in old n) ne)
    ]

    summed : (t : ℕ) → IsSum (λ m. if nat_eq number m then Some value else before m) beside t → IsSum (found nat_eq new) beside t
    summed t sum = subst (λ (a : ℕ → Option ℕ). IsSum a beside t) (sym (fun_ext wrote)) sum

    -- the first file of a node
    pub first_opened : value ≡ 1 → before number ≡ None → live new ≡ live old + 1 → (nodes total : ℕ) → AddUpTo old nodes total → AddUpTo new (nodes + 1) (total + 1)
    first_opened one none more nodes total sum =
        let alive = sum.alive in
        let all = sum.all in
        record {
          alive = omega (arith, alive, more);
          some = wrote_some (omega (arith, one)) sum.some;
          others = sum.others;
          sum = summed sum.others (subst (λ (t : ℕ). IsSum (λ m. if nat_eq number m then Some value else before m) beside t) (omega (arith, one)) (sum_with before beside number value sum.others none sum.sum));
          all = omega (arith, all);
        }

    -- another file of a node
    pub another_opened : (count : ℕ) → before number ≡ Some count → value ≡ count + 1 → live new ≡ live old → (nodes total : ℕ) → AddUpTo old nodes total → AddUpTo new nodes (total + 1)
    another_opened count here is same nodes total sum =
        let alive = sum.alive in
        let all = sum.all in
        let some = sum.some number count here in
        record {
          alive = omega (arith, alive, same);
          some = wrote_some (omega (arith, is)) sum.some;
          others = sum.others + 1;
          sum = summed (sum.others + 1) (sum_changed before beside number count value sum.others (sum.others + 1) here sum.sum (omega (arith, is, some)));
          all = omega (arith, all);
        }

    -- one of several files of a node is closed
    pub another_closed : (count : ℕ) → before number ≡ Some count → 1 < count → value ≡ count - 1 → live new ≡ live old → (nodes total : ℕ) → AddUpTo old nodes total → AddUpTo new nodes (total - 1)
    another_closed count here several is same nodes total sum =
        let alive = sum.alive in
        let all = sum.all in
        let part = part_of_sum before beside number count sum.others here sum.sum in
        record {
          alive = omega (arith, alive, same);
          some = wrote_some (omega (arith, is, several)) sum.some;
          others = sum.others - 1;
          sum = summed (sum.others - 1) (sum_changed before beside number count value sum.others (sum.others - 1) here sum.sum (omega (arith, is, several, part)));
          all = omega (arith, all, part, several);
        }

  module _ (taken : (q : ℕ) → found nat_eq new q ≡ (if nat_eq number q then None else found nat_eq old q)) where
    -- the counts after one was removed
    pub taken_out : (n : ℕ) → openings_in new n ≡ (if nat_eq number n then 0 else openings_in old n)
    taken_out n = elim (cases_eq number n) [
      | inl e ↦ ap (λ (o : Option ℕ). unwrap_or o 0) (taken n ∙ at_number number n None (before n) e) ∙ sym (at_number number n 0 (openings_in old n) e)
      | inr ne ↦ ap (λ (o : Option ℕ). unwrap_or o 0) (taken n ∙ off_number number n None (before n) ne) ∙ sym (off_number number n 0 (openings_in old n) ne)
    ]

    taken_some : ((n count : ℕ) → before n ≡ Some count → 0 < count) → (n count : ℕ) → found nat_eq new n ≡ Some count → 0 < count
    taken_some some n count there = elim (cases_eq number n) [
      | inl e ↦ absurd (none-some count (sym (taken n ∙ at_number number n None (before n) e) ∙ there))
      | inr ne ↦ some n count (sym (taken n ∙ off_number number n None (before n) ne) ∙ there)
    ]

    -- the last file of a node is closed
    pub last_closed : before number ≡ Some 1 → live new + 1 ≡ live old → (nodes total : ℕ) → AddUpTo old nodes total → AddUpTo new (nodes - 1) (total - 1)
    last_closed here less nodes total sum =
        let alive = sum.alive in
        let all = sum.all in
        record {
          alive = omega (arith, alive, less);
          some = taken_some sum.some;
          others = sum.others;
          sum = subst (λ (a : ℕ → Option ℕ). IsSum a beside sum.others) (sym (fun_ext taken)) (sum_without before beside number 1 sum.others sum.others here sum.sum (omega arith));
          all = omega (arith, all, alive, less);
        }
