-- How often each number is pinned by the requests in flight.
use Rattle.std.specs.Prelude.{ℕ, ◌+◌, ◌<◌, ◌≡◌, ◌==◌, ◌^◌, List, count_by, length, slice_index, sum_by}
use Rattle.table_requests.specs.declared.data.RequestInFlight.{RequestInFlight}
use Rattle.table_requests.specs.declared.pin_counts.PinCounts.{PinCounts}

-- how often the number is in the list
abbrev pub times : ℕ → List ℕ → ℕ
times n ns = count_by (λ m. m == n) ns

-- how often the requests pin the number
abbrev pub pins_in : List RequestInFlight → ℕ → ℕ
pins_in fs n = sum_by (λ (f : RequestInFlight). times n f.pins.numbers) fs

-- the count of the number in the list, or 0 past its end
abbrev pub counted_in : List ℕ → ℕ → ℕ
counted_in counts n = slice_index counts n

-- the pins of each number are those that are counted and those that are loose
pub record AreCounted (counts : PinCounts) (total : ℕ → ℕ) : Type 0 where
  -- the loose pins
  pub others : List ℕ
  pub known : counts.loose + 1 < 2 ^ 64 → length others ≡ counts.loose
  pub exact : (n : ℕ) → counted_in counts.by_number.items n + times n others ≡ total n
