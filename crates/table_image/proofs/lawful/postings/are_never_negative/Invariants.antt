use Rattle.std.proofs.Common.{take}
use Rattle.ledger.specs.Sums.{IsNeverNegative}
use Rattle.table_image.specs.Parts.{after_closed}
use Rattle.table_image.proofs.lawful.postings.are_never_negative.Given as goal

abbrev pub invariant-loop-k : goal.invariant-loop-k
invariant-loop-k l = IsNeverNegative (after_closed l.kept (take l.k l.postings))
