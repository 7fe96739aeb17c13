use Rattle.std.proofs.Common.{◌≡◌, take, map}
use Rattle.disk.specs.declared.spot.Spot.{Spot}
use Rattle.disk.specs.Answers.{new_path}
use Rattle.disk.proofs.moving.new_paths.Given as goal

abbrev pub invariant-loop-spot : goal.invariant-loop-spot
invariant-loop-spot l = l.paths.items ≡ map (λ (spot : Spot). new_path l.from l.to spot.path) (take l.spot-index l.spots)
