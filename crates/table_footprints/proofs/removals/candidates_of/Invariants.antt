use Rattle.std.proofs.Common.{◌≡◌}
use Rattle.table_footprints.specs.Footprints.{hidden_names}
use Rattle.table_footprints.proofs.removals.candidates_of.Given as goal

abbrev pub invariant-loop-i : goal.invariant-loop-i
invariant-loop-i l = record { names : l.names.items ≡ hidden_names l.number l.counter l.i }
