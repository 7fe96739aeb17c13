-- The entry that a place is of.
use Rattle.std.specs.Prelude.{ℕ}
use Rattle.path_cache.specs.declared.places.Place.{Place}
use Rattle.path_cache.specs.declared.places.Place.TheVariants as place

-- the number of its entry
abbrev pub number_of : Place → ℕ
number_of place.Root = 0
number_of (place.Child parent name number) = number
