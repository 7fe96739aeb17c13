use Rattle.std.proofs.Common.{ℕ, ◌≡◌, ◌<◌, get_or}
use Rattle.paths.specs.Prefixes.{Names}
use Rattle.holds.proofs.finding.contains.Given as goal

abbrev pub invariant-loop-other : goal.invariant-loop-other
invariant-loop-other l = (k : ℕ) (d : Names) → k < l.other-index → get_or l.paths k d ≡ l.path → ⊥
