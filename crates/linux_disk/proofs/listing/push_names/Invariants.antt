use Rattle.std.proofs.Common.{length, ◌-◌}
use Rattle.linux_disk.proofs.NameLemmas.{AddsSoFar}
use Rattle.linux_disk.proofs.listing.push_names.Given as goal

-- what is told of the names before `at`
abbrev pub invariant-loop-at : goal.invariant-loop-at
invariant-loop-at l = AddsSoFar l.shown l.listed l.at l.initial.names.items l.names.items

abbrev pub decreases-loop-at : goal.decreases-loop-at
decreases-loop-at l = length l.listed - l.at
