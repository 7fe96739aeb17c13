-- The lookups that a BATCH_FORGET forgets.
use Rattle.std.specs.Prelude.{ℕ, zero, suc, ◌/◌, List, [], ◌∷◌, length, drop}
use Rattle.byteorder.specs.Endian.{little_number}
use Rattle.wire.specs.declared.pairs.ForgetOne.{ForgetOne}

-- that many pairs of eight-byte numbers, one after another
abbrev pub pairs_from : ℕ → List ℕ → List ForgetOne
pairs_from zero body = []
pairs_from (suc count) body = record { node = little_number 8 body; nlookup = little_number 8 (drop 8 body) } ∷ pairs_from count (drop 16 body)

-- all whole pairs
abbrev pub pairs_in : List ℕ → List ForgetOne
pairs_in body = pairs_from (length body / 16) body
