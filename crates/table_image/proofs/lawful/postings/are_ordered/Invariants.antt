use Rattle.std.proofs.Common.{take}
use Rattle.table_law.specs.Law.{IsOrdered}
use Rattle.table_image.specs.Parts.{after_closed}
use Rattle.table_image.proofs.lawful.postings.are_ordered.Given as goal

abbrev pub invariant-loop-k : goal.invariant-loop-k
invariant-loop-k l = IsOrdered (after_closed l.kept (take l.k l.postings))
