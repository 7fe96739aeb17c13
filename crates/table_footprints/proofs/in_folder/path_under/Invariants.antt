use Rattle.std.proofs.Common.{◌≡◌, take}
use Rattle.table_footprints.proofs.in_folder.path_under.Given as goal

abbrev pub invariant-loop-other : goal.invariant-loop-other
invariant-loop-other l = record { names : l.names.items ≡ take l.other-index l.other-items }
