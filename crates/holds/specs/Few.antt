-- A list that needs no allocation for one item.
use Rattle.std.specs.Prelude.{List, [], ◌∷◌}
use Rattle.holds.specs.declared.few.Few.{Few}
use Rattle.holds.specs.declared.few.Few.TheVariants.{Nothing, One, Many}

-- the items
abbrev pub items_of : {T : Type 0} → Few T → List T
items_of Nothing = []
items_of (One item) = item ∷ []
items_of (Many items) = items.items
