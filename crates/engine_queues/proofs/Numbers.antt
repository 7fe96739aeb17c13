-- Jobs with the numbers 0, 1, 2 and so on.
use Rattle.std.proofs.Common.{◌≡◌, ℕ, zero, suc, ◌+◌, ◌<◌, ◌≤◌, List, [], ◌∷◌, ◌++◌, length, map, sym, refl, ap, ◌∙◌, eqb, eq-eqb, arith, length-append}
use Rattle.std.proofs.lemmas.Bool.{ne_eqb}
use Rattle.engine_queues.specs.Totals.{total}
use Rattle.engine_queues.specs.Jobs.{numbers, AreTaken, one_if, times}
use Rattle.engine_queues.proofs.Counting.{counted_none, counted_once}

pub numbers_snoc : (a n : ℕ) → numbers a (suc n) ≡ numbers a n ++ (a + n) ∷ []
numbers_snoc a zero = let e : a ≡ a + 0 = omega arith in ap (λ k. k ∷ []) e
numbers_snoc a (suc n) = let e : (a + 1) + n ≡ a + suc n = omega arith in ap (λ l. a ∷ l) (numbers_snoc (a + 1) n ∙ ap (λ k. numbers (a + 1) n ++ k ∷ []) e)

module _ {J : Type 0} (number : J → ℕ) where
  pub map_snoc : (js : List J) (j : J) → map number (js ++ j ∷ []) ≡ map number js ++ number j ∷ []
  map_snoc [] j = refl
  map_snoc (x ∷ js) j = ap (λ l. number x ∷ l) (map_snoc js j)

  -- the next job has the next number
  pub numbered_snoc : (js : List J) (j : J) → map number js ≡ numbers 0 (length js) → number j ≡ length js → map number (js ++ j ∷ []) ≡ numbers 0 (length (js ++ j ∷ []))
  numbered_snoc js j is next =
      let e : number j ≡ 0 + length js = omega arith in
      let m : suc (length js) ≡ length (js ++ j ∷ []) = omega (arith, length-append js (j ∷ [])) in
      map_snoc js j ∙ ap (λ l. l ++ number j ∷ []) is ∙ ap (λ k. numbers 0 (length js) ++ k ∷ []) e ∙ sym (numbers_snoc 0 (length js)) ∙ ap (numbers 0) m

  total_numbers : (f : ℕ → ℕ) (js : List J) → total (λ j. f (number j)) js ≡ total f (map number js)
  total_numbers f [] = refl
  total_numbers f (j ∷ js) = ap (λ k. f (number j) + k) (total_numbers f js)

  -- each number below the number of jobs that were put was taken once, and no other number was
  pub each_once : (put taken : List J) (x : ℕ) → map number put ≡ numbers 0 (length put) → AreTaken put taken → (x < length put → times number x taken ≡ 1) × (length put ≤ x → times number x taken ≡ 0)
  each_once put taken x is all =
      let own : ℕ → ℕ = λ k. one_if (eqb k x) in
      let among : times number x taken ≡ total own (numbers 0 (length put)) = sym (all (λ j. own (number j))) ∙ total_numbers own put ∙ ap (total own) is in (
        (λ below. among ∙ counted_once own x (ap one_if (eq-eqb x x refl)) (λ k n. ap one_if (ne_eqb k x n)) 0 (length put) (omega arith) (omega arith)),
        λ beyond. among ∙ counted_none own 0 (length put) (λ k low below. ap one_if (ne_eqb k x (λ e. absurd (omega arith)))),
      )
