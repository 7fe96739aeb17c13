use Rattle.std.proofs.Common.{ℕ, ◌<◌, get_or, Contains}
use Rattle.paths.specs.Prefixes.{Names}
use Rattle.holds.proofs.held.Paths.overlaps.Given as goal

abbrev pub invariant-loop-path : goal.invariant-loop-path
invariant-loop-path l = (k : ℕ) (d : Names) → k < l.path-index → Contains l.other (get_or l.path-items k d) → ⊥
