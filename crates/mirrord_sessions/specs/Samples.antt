-- The tree with which `hex` starts.
use Rattle.std.specs.Prelude.{◌≡◌, Bool, true, false, [], ◌∷◌, codes, Some, None}
use Rattle.paths.specs.Prefixes.{Names}
use Rattle.backing.specs.Memory.{Memory, memory_tree}
use Rattle.backing.specs.Tree.{Tree, with_item}
use Rattle.backing.specs.declared.entries.Item.TheVariants.{Folder, File}

-- only the root
abbrev pub bare : Tree
bare [] = Some Folder
bare (name ∷ below) = None

-- the file `a` containing `abc`, the folder `d` and the empty file `e` in the root, and nothing else
abbrev pub samples : Tree
samples = with_item (with_item (with_item bare (codes "a" ∷ []) (File (codes "abc"))) (codes "d" ∷ []) Folder) (codes "e" ∷ []) (File [])

-- the root, with or without the sample names
abbrev pub tree_of : Bool → Tree
tree_of false = bare
tree_of true = samples

-- The same is at each path. No call was made, and none is planned to fail.
pub record IsStart (sampled : Bool) (m : Memory) : Type 0 where
  pub stands : (path : Names) → memory_tree m path ≡ tree_of sampled path
  pub made : m.made ≡ 0
  pub plans : m.plans ≡ []
  pub failed : m.failed ≡ 0
