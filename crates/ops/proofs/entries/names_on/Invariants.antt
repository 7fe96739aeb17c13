use Rattle.std.proofs.Common.{◌≡◌, ◌++◌, drop}
use Rattle.ops.specs.Pages.{names_on}
use Rattle.ops.proofs.entries.names_on.Given as goal

abbrev pub invariant-loop-child : goal.invariant-loop-child
invariant-loop-child l = l.names.items ++ names_on (drop l.child-index l.entries) ≡ names_on l.entries
