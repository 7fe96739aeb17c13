use Rattle.std.proofs.Common.{◌≡◌, ℕ, zero, suc, ◌+◌, List, [], ◌∷◌, ◌++◌, set, sym, ap, arith}
use mathlib.Core.Option.{some, some-injective, some-ne-none}
use lib.ListN.{get_elem?}
use Rattle.engine_queues.specs.Totals.{total}

module _ {T : Type 0} where
  pub total_append : (f : T → ℕ) (xs ys : List T) → total f (xs ++ ys) ≡ total f xs + total f ys
  total_append f [] ys = omega arith
  total_append f (x ∷ xs) ys = let e = total_append f xs ys in omega arith

  -- the total after a change at one index
  pub total_set : (f : T → ℕ) (xs : List T) (i : ℕ) (v w : T) → get_elem? xs i ≡ some v → total f (set xs i w) + f v ≡ total f xs + f w
  total_set f [] i v w e = absurd (some-ne-none v (sym e))
  total_set f (x ∷ xs) zero v w e = let same : f x ≡ f v = ap f (some-injective x v e) in omega arith
  total_set f (x ∷ xs) (suc i) v w e = let rest = total_set f xs i v w e in omega arith

  -- one element is at most the total
  pub total_at : (f : T → ℕ) (xs : List T) (i : ℕ) (v : T) → get_elem? xs i ≡ some v → (k : ℕ) × (total f xs ≡ f v + k)
  total_at f [] i v e = absurd (some-ne-none v (sym e))
  total_at f (x ∷ xs) zero v e = (total f xs, ap (λ y. f y + total f xs) (some-injective x v e))
  total_at f (x ∷ xs) (suc i) v e = let r = total_at f xs i v e in (f x + r.0, (let s = r.1 in omega arith))
