use Rattle.std.proofs.Common.{◌≡◌, ◌+◌, ◌-◌, ◌^◌, None}
use Rattle.tree.specs.Places.{at_in}
use Rattle.table_image.proofs.Exported.{ListsBelow}
use Rattle.table.proofs.export.copy_nodes.Given as goal

abbrev pub invariant-loop-next : goal.invariant-loop-next
invariant-loop-next l = at_in l.tree 0 ≡ None → ListsBelow (at_in l.tree) (l.number + 1) l.nodes.items

abbrev pub decreases-loop-next : goal.decreases-loop-next
decreases-loop-next l = 2 ^ 64 - l.number
