use Rattle.std.proofs.Common.{ℕ, ◌≡◌, ◌<◌, ◌++◌, ◌∷◌, [], get_or}
use Rattle.paths.specs.Prefixes.{Names}
use Rattle.holds.proofs.finding.contains_name.Given as goal

abbrev pub invariant-loop-path : goal.invariant-loop-path
invariant-loop-path l = (k : ℕ) (d : Names) → k < l.path-index → get_or l.paths k d ≡ l.parent ++ l.name ∷ [] → ⊥
