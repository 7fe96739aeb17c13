-- Adding and removing one pin.
use Rattle.std.proofs.Common.{ℕ, ◌+◌, ◌-◌, ◌<◌, ◌≤◌, ◌≡◌, ◌==◌, ◌^◌, if◌then◌else◌, cond, nat_eq, List, [], ◌∷◌, ◌++◌, take, length, get_or, refl, sym, ap, ◌∙◌, subst, inl, inr, arith}
use Rattle.std.specs.List.{remove}
use Rattle.std.proofs.lemmas.Bool.{cases_Bool, cond-false, cond-true, eq-eqb, eqb-true, lt-ltb}
use Rattle.std.proofs.lemmas.List.{length-append}
use Rattle.std.proofs.lemmas.List.Edits.{length-remove}
use Rattle.std.proofs.lemmas.List.Folds.{Any-from_list_any}
use Rattle.std.proofs.lemmas.List.Sums.{count_by_more_no, count_by_more_yes, sum_by-remove, sum_by-take-le, sum_by_push}
use Rattle.table_files.proofs.Listing.{any_counted}
use Rattle.table_requests.specs.PinCounts.{AreCounted, counted_in, times}
use Rattle.table_requests.specs.declared.pin_counts.PinCounts.{PinCounts}

-- one for the number itself, and 0 for any other
abbrev pub counts_as : ℕ → ℕ → ℕ
counts_as number n = if nat_eq number n then 1 else 0

-- equal totals
pub same_totals : (counts : PinCounts) (f g : ℕ → ℕ) → ((n : ℕ) → f n ≡ g n) → AreCounted counts f → AreCounted counts g
same_totals counts f g same counted = record {
  others = counted.others;
  known = counted.known;
  exact = λ n. counted.exact n ∙ same n;
}

-- a pin that is not counted by number
pub loosened : (old new : PinCounts) (number : ℕ) (total : ℕ → ℕ) → new.by_number.items ≡ old.by_number.items → (new.loose + 1 < 2 ^ 64 → new.loose ≡ old.loose + 1) → AreCounted old total
    → AreCounted new (λ n. total n + counts_as number n)
loosened old new number total same more counted =
    let longer = length-append counted.others (number ∷ []) in
    record {
      others = counted.others ++ number ∷ [];
      known = λ within. let is = more within in let was = counted.known (omega (arith, within, is)) in omega (arith, longer, is, was);
      exact = λ n.
          let was = subst (λ (counts : List ℕ). counted_in counts n + times n counted.others ≡ total n) (sym same) (counted.exact n) in
          let pushed = sum_by_push (λ m. cond (m == n) 1 0) counted.others number in
          omega (arith, was, pushed);
    }

-- a pin that was not counted is removed
pub tightened : (old new : PinCounts) (number : ℕ) (total : ℕ → ℕ) → new.by_number.items ≡ old.by_number.items → counted_in old.by_number.items number ≡ 0 → 0 < total number
    → (new.loose + 1 < 2 ^ 64 → (old.loose + 1 < 2 ^ 64) × (new.loose ≡ old.loose - 1)) → AreCounted old total
    → AreCounted new (λ n. total n - counts_as number n)
tightened old new number total same none some less counted =
    let here = counted.exact number in
    let all = counted.others in
    let many : 0 < times number all = omega (arith, here, none, some) in
    let it = Any-from_list_any (λ m. m == number) all (sym (any_counted (λ m. m == number) all) ∙ lt-ltb 0 (times number all) many) in
    let i = it.0 in
    let is : get_or all i it.1 ≡ number = it.3 ∙ eqb-true it.1 number it.4 in
    let shorter = length-remove all i it.2 in
    record {
      others = remove all i;
      known = λ within. let was = less within in let length_is = counted.known was.0 in omega (arith, shorter, was.1, length_is, it.2);
      exact = λ n.
          let was = subst (λ (counts : List ℕ). counted_in counts n + times n all ≡ total n) (sym same) (counted.exact n) in
          let gone : times n (remove all i) + counts_as number n ≡ times n all = subst (λ k. times n (remove all i) + counts_as k n ≡ times n all) is (sum_by-remove (λ m. cond (m == n) 1 0) all i it.1 it.2) in
          omega (arith, was, gone);
    }

-- how often a number is among the first ones and the next one
pub times_more : (ns : List ℕ) (i d n : ℕ) → i < length ns → times n (take (i + 1) ns) ≡ times n (take i ns) + counts_as (get_or ns i d) n
times_more ns i d n within = elim (cases_Bool (get_or ns i d == n)) [
  | inl hit ↦ count_by_more_yes (λ m. m == n) ns i d within hit ∙ ap (λ k. times n (take i ns) + k) (sym (cond-true (get_or ns i d == n) 1 0 hit))
  | inr miss ↦
      let none : counts_as (get_or ns i d) n ≡ 0 = cond-false (get_or ns i d == n) 1 0 miss in
      let same = count_by_more_no (λ m. m == n) ns i d within miss in
      omega (arith, same, none)
]

-- the next one is still to be counted
pub times_left : (ns : List ℕ) (i d : ℕ) → i < length ns → times (get_or ns i d) (take i ns) + 1 ≤ times (get_or ns i d) ns
times_left ns i d within =
    let x = get_or ns i d in
    let more = times_more ns i d x within in
    let one : counts_as x x ≡ 1 = cond-true (x == x) 1 0 (eq-eqb x x refl) in
    let most = sum_by-take-le (λ m. cond (m == x) 1 0) ns (i + 1) in
    omega (arith, more, one, most)
