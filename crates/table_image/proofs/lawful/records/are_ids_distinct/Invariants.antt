use Rattle.table_image.specs.Parts.{HaveOtherIds}
use Rattle.table_image.proofs.Pairs.{PairsBelow}
use Rattle.table_image.proofs.lawful.records.are_ids_distinct.Given as goal

abbrev pub invariant-loop-i : goal.invariant-loop-i
invariant-loop-i l = PairsBelow HaveOtherIds l.records l.i
