use Rattle.table_image.specs.Parts.{HaveOtherPaths}
use Rattle.table_image.proofs.Pairs.{PairsBelow}
use Rattle.table_image.proofs.lawful.held.have_own_paths.Given as goal

abbrev pub invariant-loop-i : goal.invariant-loop-i
invariant-loop-i l = PairsBelow HaveOtherPaths l.holds l.i
