use Rattle.std.proofs.Common.{ℕ, ◌<◌, take}
use Rattle.backing.specs.Tree.{IsFolder}
use Rattle.backing.specs.Entries.{tree_of}
use Rattle.backing.proofs.checks.expect_reached.Given as goal

abbrev pub invariant-loop-depth : goal.invariant-loop-depth
invariant-loop-depth l = (k : ℕ) → k < l.depth → IsFolder (tree_of l.entries (take k l.path))
