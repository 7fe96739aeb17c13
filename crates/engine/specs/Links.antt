-- The traffic of a link.
use Rattle.std.specs.Prelude.{ℕ, ◌≤◌, ◌+◌, ◌-◌, ◌^◌, min, List, take}
use Rattle.engine.specs.declared.links.Received.{Received}
use Rattle.engine.specs.declared.links.Received.TheVariants as received
use Rattle.engine.specs.declared.links.Sent.{Sent}
use Rattle.engine.specs.declared.links.Sent.TheVariants.{Taken, Untaken, Broken}

-- what a receive brought
pub data Heard : Type 0 where
  Piece : (bytes : List ℕ) → Heard
  Ended : Heard
  Broke : Heard

-- the same, in terms of the buffer that was filled
abbrev pub heard : Received → List ℕ → Heard
heard (received.Bytes n) room = Piece (take n room)
heard received.End room = Ended
heard received.Broken room = Broke

-- no more came than there was room for
abbrev pub IsWithin : Received → ℕ → Type 0
IsWithin (received.Bytes n) room = n ≤ room
IsWithin received.End room = Unit {0}
IsWithin received.Broken room = Unit {0}

-- one receive, or one send with its answer
pub data Event : Type 0 where
  In : (heard : Heard) → Event
  Out : (bytes : List ℕ) → (sent : Sent) → Event

abbrev pub Happens : {L : Type 0} → (L → Heard → L → Type 0) → (L → List ℕ → Sent → L → Type 0) → L → Event → L → Type 0
Happens receives sends old (In heard) new = receives old heard new
Happens receives sends old (Out bytes sent) new = sends old bytes sent new

-- ---- failures

abbrev pub lost : Heard → ℕ
lost (Piece bytes) = 0
lost Ended = 0
lost Broke = 1

abbrev pub missed : Sent → ℕ
missed Taken = 0
missed Untaken = 1
missed Broken = 1

-- a count of 64 bits, which stays at its maximum
abbrev pub counted : ℕ → ℕ → ℕ
counted n by = n + min by (2 ^ 64 - 1 - n)
