use Rattle.std.proofs.Common.{◌↔◌, drop}
use Rattle.tree.specs.Listed.{IsDistinct}
use Rattle.table_image.proofs.lawful.nodes.are_distinct.Given as goal

abbrev pub invariant-loop-i : goal.invariant-loop-i
invariant-loop-i l = IsDistinct l.nodes ↔ IsDistinct (drop l.i l.nodes)
