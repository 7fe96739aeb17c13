use Rattle.std.proofs.Common.{◌≡◌, drop}
use Rattle.backing.specs.Entries.{look}
use Rattle.disk.specs.Spots.{entries_of}
use Rattle.disk.proofs.finding.index_at.Given as goal

abbrev pub invariant-loop-i : goal.invariant-loop-i
invariant-loop-i l = look (entries_of l.spots) l.path ≡ look (drop l.i (entries_of l.spots)) l.path
