use Rattle.std.proofs.Common.{◌≡◌, ◌+◌, ◌-◌, ◌^◌, None}
use Rattle.tree.specs.Places.{at_in}
use Rattle.table.specs.Leftovers.{AreLeftBelow}
use Rattle.table.proofs.leftover.leftover.Given as goal

abbrev pub invariant-loop-next : goal.invariant-loop-next
invariant-loop-next l = at_in l.state.tree 0 ≡ None → AreLeftBelow (at_in l.state.tree) (l.number + 1) l.paths.items

abbrev pub decreases-loop-next : goal.decreases-loop-next
decreases-loop-next l = 2 ^ 64 - l.number
