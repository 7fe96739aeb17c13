-- The result of one receive.
use Rattle.std.specs.Prelude.{◌≡◌, ℕ, List, ◌++◌, length, Option, Some, None}
use Rattle.wire.specs.Stream.{Cutting}
use Rattle.engine.specs.declared.ends.SessionEnd.{SessionEnd}
use Rattle.engine.specs.declared.ends.SessionEnd.TheVariants as ends
use Rattle.engine.specs.Links.{Heard, Piece, Ended, Broke}

-- what came is appended to what was kept, or the session is over
abbrev pub IsHeard : {L : Type 0} → (L → Heard → L → Type 0) → L → Cutting → Option SessionEnd → L → Cutting → Type 0
IsHeard receives old cutter None new cutter' = (bytes : List ℕ) × receives old (Piece bytes) new × (cutter' ≡ record cutter { kept = cutter.kept ++ bytes })
IsHeard receives old cutter (Some (ends.Closed rest)) new cutter' = receives old Ended new × (rest ≡ length cutter.kept)
IsHeard receives old cutter (Some ends.Destroyed) new cutter' = ⊥
IsHeard receives old cutter (Some (ends.BadLength len)) new cutter' = ⊥
IsHeard receives old cutter (Some ends.LinkBroken) new cutter' = receives old Broke new
IsHeard receives old cutter (Some ends.Memory) new cutter' = (bytes : List ℕ) × receives old (Piece bytes) new
IsHeard receives old cutter (Some ends.NoWorkers) new cutter' = ⊥
