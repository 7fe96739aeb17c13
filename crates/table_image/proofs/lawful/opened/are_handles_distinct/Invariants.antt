use Rattle.table_image.specs.Parts.{HaveOtherHandles}
use Rattle.table_image.proofs.Pairs.{PairsBelow}
use Rattle.table_image.proofs.lawful.opened.are_handles_distinct.Given as goal

abbrev pub invariant-loop-i : goal.invariant-loop-i
invariant-loop-i l = PairsBelow HaveOtherHandles l.files l.i
