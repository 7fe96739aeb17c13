use Rattle.table_image.specs.Parts.{StandApart}
use Rattle.table_image.proofs.Pairs.{PairsBelow}
use Rattle.table_image.proofs.lawful.nodes.are_names_apart.Given as goal

abbrev pub invariant-loop-i : goal.invariant-loop-i
invariant-loop-i l = PairsBelow StandApart l.nodes l.i
