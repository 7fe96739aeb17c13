use Rattle.std.proofs.Common.{◌≡◌, ◌++◌, take}
use Rattle.paths.specs.Prefixes.{prefixes}
use Rattle.holds.proofs.prefixes.push_prefixes.Given as goal

abbrev pub invariant-loop-i : goal.invariant-loop-i
invariant-loop-i l = l.paths ≡ l.fn.paths ++ prefixes (take l.i l.path)
