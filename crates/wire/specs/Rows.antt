-- The bytes of a row to be written.
use Rattle.std.specs.Prelude.{ℕ, List, [], ◌∷◌, ◌++◌}
use Rattle.std.specs.List.{flat_map}
use Rattle.wire.specs.declared.writing.Part.{Part}
use Rattle.wire.specs.declared.writing.Part.TheVariants.{U32, U64, LowU32, Zeros, Text, Bytes, New}
use Rattle.wire.specs.Requests.{new_attributes_layout, new_attributes_values}
use Rattle.wire.specs.Written.{le, zeros, written}

abbrev pub part_bytes : Part → List ℕ
part_bytes (U32 n) = le 4 n
part_bytes (U64 n) = le 8 n
part_bytes (LowU32 n) = le 4 n
part_bytes (Zeros n) = zeros n
part_bytes (Text t) = t.now ++ 0 ∷ []
part_bytes (Bytes b) = b.now
part_bytes (New a) = written new_attributes_layout (new_attributes_values a)

abbrev pub parts_bytes : List Part → List ℕ
parts_bytes parts = flat_map part_bytes parts
