use Rattle.std.proofs.Common.{◌≡◌, drop}
use Rattle.disk.specs.Spots.{path_of}
use Rattle.disk.proofs.finding.index_of.Given as goal

abbrev pub invariant-loop-i : goal.invariant-loop-i
invariant-loop-i l = path_of l.spots l.number ≡ path_of (drop l.i l.spots) l.number
