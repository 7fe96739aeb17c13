-- How often each number was born, apart from the postings.
use Rattle.std.specs.Prelude.{ℕ, ◌≡◌, ◌<◌, ◌≤◌, List, length, AllPairs, MatchResult, Result}
use Rattle.std.specs.List.{HoldsAt}
use Rattle.std.specs.List.Sorted.{IsPartitionPoint}
use Rattle.ledger.specs.declared.births.KeptBirths.{KeptBirths}
use Rattle.ledger.specs.Periods.{Periods}
use Rattle.ledger.specs.Sums.{births_closed, births_of}

-- the list is sorted by number, and each number comes once
abbrev pub IsRising : List KeptBirths → Type 0
IsRising births = AllPairs (λ b c. b.number < c.number) births

-- the index of the number, or else the index at which to insert it
abbrev pub IsPlaceOf : List KeptBirths → ℕ → Result ℕ ℕ → Type 0
IsPlaceOf births n place = MatchResult place (λ i. (i < length births) × HoldsAt (λ b. b.number ≡ n) births i) (λ i. (i ≤ length births) × IsPartitionPoint (λ b. b.number < n) (λ b. n < b.number) births i)

-- these are the births of all periods
abbrev pub AreTallied : List KeptBirths → Periods → Type 0
AreTallied births ps = (n : ℕ) → births_closed n births ≡ births_of n ps
