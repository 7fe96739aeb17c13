-- What folders lead down to.
use Rattle.std.specs.Prelude.{[], ◌∷◌, ◌++◌, Option, Some, None}
use Rattle.paths.specs.Prefixes.{Names}
use Rattle.backing.specs.declared.entries.Item.{Item}
use Rattle.backing.specs.declared.entries.Item.TheVariants.{Folder}
use Rattle.backing.specs.Tree.{Tree}

-- what stands below what stands here
abbrev pub below : Option Item → Option Item → Option Item
below None item = None
below (Some Folder) item = item
below (Some other) item = None

-- what stands at p below up, where all on the way are folders
abbrev pub reached_from : Tree → Names → Names → Option Item
reached_from at up [] = at up
reached_from at up (name ∷ p) = below (at up) (reached_from at (up ++ name ∷ []) p)

-- the same tree with its root
abbrev pub rooted : Tree → Tree
rooted at [] = Some Folder
rooted at (name ∷ p) = at (name ∷ p)

abbrev pub reached : Tree → Tree
reached at p = reached_from (rooted at) [] p
