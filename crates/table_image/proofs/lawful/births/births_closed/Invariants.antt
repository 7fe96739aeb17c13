use Rattle.std.proofs.Common.{◌≡◌, take}
use Rattle.ledger.specs.Sums.{births_closed}
use Rattle.table_image.proofs.lawful.births.births_closed.Given as goal

abbrev pub invariant-loop-entry : goal.invariant-loop-entry
invariant-loop-entry l = l.births ≡ births_closed l.number (take l.entry-index l.kept)
