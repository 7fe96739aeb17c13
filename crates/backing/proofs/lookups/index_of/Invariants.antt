use Rattle.std.proofs.Common.{◌≡◌, drop}
use Rattle.backing.specs.Entries.{look}
use Rattle.backing.proofs.lookups.index_of.Given as goal

abbrev pub invariant-loop-i : goal.invariant-loop-i
invariant-loop-i l = look l.entries l.names ≡ look (drop l.i l.entries) l.names
