-- A short name as it is stored.
use Rattle.std.specs.Prelude.{ℕ, List, ◌++◌, ◌-◌, length, replicate, take}
use Rattle.std.specs.Int.{from_be_bytes, w64}

-- the name, and zeros: 22 bytes
unfoldable pub padded : List ℕ → List ℕ
padded name = name ++ replicate (22 - length name) 0

-- its first eight bytes as a number, the first of them highest; in place of those that it has not, zeros
unfoldable pub leading : List ℕ → ℕ
leading name = from_be_bytes w64 (take 8 (name ++ replicate 8 0))
