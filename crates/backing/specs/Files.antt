-- The bytes of a file, before and after a write.
use Rattle.std.specs.Prelude.{ℕ, ◌+◌, ◌-◌, List, ◌++◌, length, take, drop, replicate, max}

-- truncated to n bytes, or extended with zeros
abbrev pub resized : ℕ → List ℕ → List ℕ
resized n bytes = take n bytes ++ replicate (n - length bytes) 0

-- the data is at the offset, and everything else is unchanged
abbrev pub overlaid : List ℕ → ℕ → List ℕ → List ℕ
overlaid bytes offset piece = take offset bytes ++ piece ++ drop (offset + length piece) bytes

-- the data was written at the offset; a gap before it is filled with zeros
abbrev pub written : List ℕ → ℕ → List ℕ → List ℕ
written bytes offset piece = overlaid (resized (max (length bytes) (offset + length piece)) bytes) offset piece

-- at most size bytes from the offset on
abbrev pub read : List ℕ → ℕ → ℕ → List ℕ
read bytes offset size = take size (drop offset bytes)
