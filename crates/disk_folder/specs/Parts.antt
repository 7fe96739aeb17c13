-- A write of which a part may be done.
use Rattle.std.specs.Prelude.{ℕ, ◌≡◌, ◌⊎◌, ◌<◌, List, take}
use Rattle.paths.specs.Prefixes.{Names}
use Rattle.backing.specs.declared.entries.Item.TheVariants.{File}
use Rattle.backing.specs.Files.{written}
use Rattle.backing.specs.Tree.{Tree, with_item}

-- what was written of the bytes so far: nothing, or the first ones
abbrev pub WroteSoFar : Tree → Names → List ℕ → ℕ → List ℕ → ℕ → Tree → Type 0
WroteSoFar old p bytes offset piece n new = ((n ≡ 0) × (new ≡ old)) ⊎ ((0 < n) × (new ≡ with_item old p (File (written bytes offset (take n piece)))))
