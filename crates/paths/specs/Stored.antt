-- How a name is stored, and what it gives a hasher.
use Rattle.std.specs.Prelude.{ℕ, List, [], ◌∷◌}
use Rattle.std.specs.Arc.{arc_slice_items, arc_value}
use Rattle.paths.specs.declared.Stored.{Stored}
use Rattle.paths.specs.declared.Stored.TheVariants.{Short, Middle, Long}

-- its bytes
abbrev pub stored_bytes : Stored → List ℕ
stored_bytes (Short bytes) = bytes
stored_bytes (Middle bytes) = (arc_value bytes).items
stored_bytes (Long bytes) = arc_slice_items bytes

-- what a hasher is given of a name: its bytes, and a slash
abbrev pub fed_name : List ℕ → List (List ℕ)
fed_name name = name ∷ (47 ∷ []) ∷ []
