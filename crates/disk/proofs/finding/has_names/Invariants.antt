use Rattle.std.proofs.Common.{ℕ, ◌≡◌, ◌<◌, ◌++◌, ◌∷◌, [], get_or}
use Rattle.paths.specs.Prefixes.{Name}
use Rattle.disk.specs.declared.spot.Spot.{Spot}
use Rattle.disk.proofs.finding.has_names.Given as goal

abbrev pub invariant-loop-spot : goal.invariant-loop-spot
invariant-loop-spot l = (k : ℕ) (d : Spot) (name : Name) → k < l.spot-index → (get_or l.spots k d).path ≡ l.folder ++ name ∷ [] → ⊥
