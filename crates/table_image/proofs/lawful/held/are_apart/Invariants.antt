use Rattle.table_image.specs.ImageLaw.{AreClear}
use Rattle.table_image.proofs.Pairs.{PairsBelow}
use Rattle.table_image.proofs.lawful.held.are_apart.Given as goal

abbrev pub invariant-loop-i : goal.invariant-loop-i
invariant-loop-i l = PairsBelow AreClear l.records l.i
