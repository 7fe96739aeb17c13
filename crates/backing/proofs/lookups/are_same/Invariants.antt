use Rattle.std.proofs.Common.{◌≡◌, drop}
use Rattle.backing.specs.Tree.{is_path}
use Rattle.backing.proofs.lookups.are_same.Given as goal

abbrev pub invariant-loop-i : goal.invariant-loop-i
invariant-loop-i l = is_path l.names l.others ≡ is_path (drop l.i l.names) (drop l.i l.others)
