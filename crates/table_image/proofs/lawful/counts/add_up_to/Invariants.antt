use Rattle.std.proofs.Common.{◌+◌, ◌≡◌, take}
use Rattle.table_image.specs.Parts.{counts_in_all}
use Rattle.table_image.proofs.lawful.counts.add_up_to.Given as goal

abbrev pub invariant-loop-node : goal.invariant-loop-node
invariant-loop-node l = l.left + counts_in_all (take l.node-index l.nodes) ≡ l.total
