-- What a writer may have after it was given bytes.
use Rattle.std.specs.Prelude.{ℕ, ◌≤◌, List, Option, length, take}
use Rattle.std.specs.Io.KnownBytes.{Appends}

-- Some first part of these bytes was appended, possibly none or all, and nothing else.
abbrev pub AppendsPart : Option (List ℕ) → Option (List ℕ) → List ℕ → Type 0
AppendsPart old new bytes = (n : ℕ) × Appends old new (take n bytes)

-- The first n of these bytes were appended, and nothing else.
pub record AppendsFirst (n : ℕ) (old new : Option (List ℕ)) (bytes : List ℕ) : Type 0 where
  pub within : n ≤ length bytes
  pub appended : Appends old new (take n bytes)
