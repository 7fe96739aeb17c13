use Rattle.std.proofs.Common.{ℕ, ◌<◌, get_or}
use Rattle.paths.specs.Prefixes.{Names}
use Rattle.holds.specs.Numbers.{holders_on}
use Rattle.holds.proofs.numbers.HoldNumbers.is_any_exclusive.Given as goal

abbrev pub invariant-loop-path : goal.invariant-loop-path
invariant-loop-path l = (k : ℕ) (d : Names) → k < l.path-index → 0 < (holders_on l.self (get_or l.paths k d)).exclusive → ⊥
