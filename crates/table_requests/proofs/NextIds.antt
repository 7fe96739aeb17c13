-- Each step keeps all ids below a number.
use Rattle.std.proofs.Common.{ℕ, ◌+◌, ◌<◌, ◌≤◌, ◌≡◌, ◌^◌, List, [], ◌∷◌, ◌++◌, None, sym, subst, inl, inr, arith}
use Rattle.table_requests.specs.declared.data.RequestInFlight.{RequestInFlight}
use Rattle.table_requests.specs.RequestMaps.{RequestsInFlight, with_flight, without_flight}
use Rattle.table_requests.specs.Listed.{AreBelow, flight_in}
use Rattle.table_requests.proofs.ById.{with_some, without_some}
use Rattle.table_requests.proofs.Lookups.{flight_in-push}

pub below_with : (at : RequestsInFlight) (n id : ℕ) (f : RequestInFlight) → AreBelow n at → id < n → AreBelow n (with_flight at id f)
below_with at n id f all less k g there = elim (with_some at id f k g there) [
  | inl (e, same) ↦ omega (arith, e, less)
  | inr (ne, was) ↦ all k g was
]

pub below_without : (at : RequestsInFlight) (n id : ℕ) → AreBelow n at → AreBelow n (without_flight at id)
below_without at n id all k g there = all k g (without_some at id k g there).1

pub below_more : (at : RequestsInFlight) (n m : ℕ) → n ≤ m → AreBelow n at → AreBelow m at
below_more at n m less all k g there = let it = all k g there in omega (arith, it, less)

-- a request is added
pub below_added : (fs : List RequestInFlight) (g : RequestInFlight) (next next' : ℕ) → flight_in fs g.id ≡ None → (next + 1 < 2 ^ 64 → AreBelow next (flight_in fs)) → next ≤ next' → (next' + 1 < 2 ^ 64 → g.id < next')
    → next' + 1 < 2 ^ 64 → AreBelow next' (flight_in (fs ++ g ∷ []))
below_added fs g next next' fresh all more above within =
    subst (λ (at : RequestsInFlight). AreBelow next' at) (sym (flight_in-push fs g fresh))
    (below_with (flight_in fs) next' g.id g (below_more (flight_in fs) next next' more (all (omega (arith, within, more)))) (above within))
