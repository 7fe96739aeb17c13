-- Requests by their ids, after one was added, changed or removed.
use Rattle.std.proofs.Common.{ℕ, ◌≡◌, ◌==◌, ◌||◌, Bool, true, false, [], ◌∷◌, Some, None, refl, sym, ap, ◌∙◌, subst, arith, ◌⊎◌, inl, inr}
use Rattle.std.proofs.lemmas.Bool.{cases_eq, ne_eqb, eq-eqb, cond-true, cond-false}
use Rattle.std.proofs.lemmas.Bool.Decides.{nat_tests}
use Rattle.std.proofs.lemmas.List.Folds.{list_any-append}
use Rattle.std.proofs.lemmas.Option.{none-some, same_Some}
use mathlib.Core.Path.{fun_ext}
use Rattle.table_requests.specs.declared.data.RequestInFlight.{RequestInFlight}
use Rattle.table_requests.specs.RequestMaps.{RequestsInFlight, RequestMaps, Adds, with_flight, without_flight, pins_number, pinning}

-- a look-up at another id and at the same one
pub with_other : (at : RequestsInFlight) (n : ℕ) (f : RequestInFlight) (m : ℕ) → (n ≡ m → ⊥) → with_flight at n f m ≡ at m
with_other at n f m ne = cond-false (n == m) (Some f) (at m) (ne_eqb n m ne)

pub with_same : (at : RequestsInFlight) (n : ℕ) (f : RequestInFlight) → with_flight at n f n ≡ Some f
with_same at n f = cond-true (n == n) (Some f) (at n) (eq-eqb n n refl)

pub without_other : (at : RequestsInFlight) (n m : ℕ) → (n ≡ m → ⊥) → without_flight at n m ≡ at m
without_other at n m ne = cond-false (n == m) None (at m) (ne_eqb n m ne)

pub without_same : (at : RequestsInFlight) (n : ℕ) → without_flight at n n ≡ None
without_same at n = cond-true (n == n) None (at n) (eq-eqb n n refl)

-- a request found after one was removed was found before, and is another one
pub without_some : (at : RequestsInFlight) (n m : ℕ) (f : RequestInFlight) → without_flight at n m ≡ Some f → (n ≡ m → ⊥) × (at m ≡ Some f)
without_some at n m f h = elim (cases_eq n m) [
  | inl e ↦ absurd (none-some f (sym (subst (λ k. without_flight at n k ≡ None) e (without_same at n)) ∙ h))
  | inr ne ↦ (ne, sym (without_other at n m ne) ∙ h)
]

-- a request found after a write is the written one, or was found before
pub with_some : (at : RequestsInFlight) (n : ℕ) (g : RequestInFlight) (m : ℕ) (f : RequestInFlight) → with_flight at n g m ≡ Some f → ((n ≡ m) × (g ≡ f)) ⊎ ((n ≡ m → ⊥) × (at m ≡ Some f))
with_some at n g m f h = elim (cases_eq n m) [
  | inl e ↦ inl (e, same_Some g f (sym (subst (λ k. with_flight at n g k ≡ Some g) e (with_same at n g)) ∙ h))
  | inr ne ↦ inr (ne, sym (with_other at n g m ne) ∙ h)
]

-- two changes at different ids, in either order
pub with_swap : (at : RequestsInFlight) (n k : ℕ) (f g : RequestInFlight) → (n ≡ k → ⊥) → with_flight (with_flight at n f) k g ≡ with_flight (with_flight at k g) n f
with_swap at n k f g ne = fun_ext (λ m. grind (arith, nat_tests))

pub with_twice : (at : RequestsInFlight) (n : ℕ) (f g : RequestInFlight) → with_flight (with_flight at n f) n g ≡ with_flight at n g
with_twice at n f g = fun_ext (λ m. grind (arith, nat_tests))

pub without_with : (at : RequestsInFlight) (n : ℕ) (f : RequestInFlight) → at n ≡ None → without_flight (with_flight at n f) n ≡ at
without_with at n f h = fun_ext (λ m. elim (cases_eq n m) [
  | inl e ↦ let P : ℕ → Type 0 = λ k. without_flight (with_flight at n f) n k ≡ at k in subst P e (without_same (with_flight at n f) n ∙ sym h)
  | inr ne ↦ without_other (with_flight at n f) n m ne ∙ with_other at n f m ne
])

pub without_swap : (at : RequestsInFlight) (n k : ℕ) (f : RequestInFlight) → (n ≡ k → ⊥) → with_flight (without_flight at k) n f ≡ without_flight (with_flight at n f) k
without_swap at n k f ne = fun_ext (λ m. grind (arith, nat_tests))

-- a request found after a step is the one of the step, or was found before
pub Adds_found : (old new : RequestMaps) (g : RequestInFlight) → Adds old g new → (k : ℕ) (f : RequestInFlight) → new.at k ≡ Some f → ((g.id ≡ k) × (g ≡ f)) ⊎ ((g.id ≡ k → ⊥) × (old.at k ≡ Some f))
Adds_found old new g adds k f h = with_some old.at g.id g k f (sym (ap (λ (at : RequestsInFlight). at k) adds.at) ∙ h)

pub or_none : (a : Bool) → (a || false) ≡ a
or_none true = refl
or_none false = refl

-- a request pins what it pinned, and the new number
pub pins_number-pinning : (f : RequestInFlight) (n m : ℕ) → pins_number (pinning f n) m ≡ (pins_number f m || n == m)
pins_number-pinning f n m = list_any-append (λ (a : ℕ). a == m) f.pins.numbers (n ∷ []) ∙ ap (λ c. pins_number f m || c) (or_none (n == m))
