-- The way to a folder that is reached by names.
use Rattle.std.proofs.Common.{◌≡◌, ℕ, List, ◌∷◌, ◌++◌, codes, ap, ◌∙◌}
use mathlib.Core.List.{append_assoc}
use Rattle.disk.specs.Names.{IsLawfulName}
use Rattle.linux_disk.specs.Ways.{IsWay}

-- one name more
pub way_on : (up name mid text : List ℕ) → IsWay up → IsLawfulName name → mid ≡ up ++ name → text ≡ mid ++ codes "/" → IsWay text
way_on up name mid text way lawful named closed = record {
  names = name ∷ way.names;
  through = (up, way.through, lawful, closed ∙ ap (λ (xs : List ℕ). xs ++ codes "/") named ∙ append_assoc up name (codes "/"));
}
