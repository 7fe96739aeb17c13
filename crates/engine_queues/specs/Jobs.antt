-- What the passes of the job queue know.
use Rattle.std.specs.Prelude.{◌≡◌, ℕ, zero, suc, ◌+◌, Bool, true, false, List, [], ◌∷◌, ◌++◌, eqb}
use mathlib.Core.Option.{some}
use lib.ListN.{get_elem?}
use Rattle.engine_queues.specs.Totals.{total}
use Rattle.engine_queues.specs.declared.jobs.Hand.{Hand}

module _ {J : Type 0} where
  abbrev pub hand : ℕ → List J → List J → Hand J
  hand parts put taken = record { parts = parts; put = put; taken = taken }

  abbrev pub both : Hand J → Hand J → Hand J
  both v w = hand (v.parts + w.parts) (v.put ++ w.put) (v.taken ++ w.taken)

  abbrev pub put_of : Hand J → J → Hand J
  put_of v x = hand v.parts (v.put ++ x ∷ []) v.taken

  abbrev pub taken_of : Hand J → J → Hand J
  taken_of v x = hand v.parts v.put (v.taken ++ x ∷ [])

  -- a pass without a part has put and taken nothing
  abbrev pub IdleIsEmpty : List (Hand J) → Type 0
  IdleIsEmpty views = (port : ℕ) (v : Hand J) → get_elem? views port ≡ some v → v.parts ≡ 0 → (v.put ≡ []) × (v.taken ≡ [])

  -- what was put was taken or is left, for any weights of the jobs
  abbrev pub Accounts : List J → List J → List J → Type 0
  Accounts put taken left = (h : J → ℕ) → total h put ≡ total h taken + total h left

  -- the jobs that were taken are those that were put, each as often
  abbrev pub AreTaken : List J → List J → Type 0
  AreTaken put taken = (h : J → ℕ) → total h put ≡ total h taken

  abbrev pub Balanced : List J → List (Hand J) → Type 0
  Balanced items views =
      (total (λ (v : Hand J). v.parts) views ≡ 8)
      × ((h : J → ℕ) → total (λ (v : Hand J). total h v.put) views ≡ total (λ (v : Hand J). total h v.taken) views + total h items)
      × IdleIsEmpty views

-- n numbers from a on
abbrev pub numbers : ℕ → ℕ → List ℕ
numbers a zero = []
numbers a (suc n) = a ∷ numbers (a + 1) n

abbrev pub one_if : Bool → ℕ
one_if true = 1
one_if false = 0

-- how many of them have the number x
abbrev pub times : {J : Type 0} → (J → ℕ) → ℕ → List J → ℕ
times number x js = total (λ j. one_if (eqb (number j) x)) js
