-- A disk that is new.
use Rattle.std.proofs.Common.{◌≡◌, List, [], ◌∷◌, refl, ap, ◌∙◌}
use mathlib.Core.Path.{fun_ext}
use Rattle.paths.specs.Prefixes.{Names}
use Rattle.backing.specs.Entries.{look}
use Rattle.disk.specs.Alone.{root_alone}
use Rattle.disk.specs.Reached.{reached}
use Rattle.disk.specs.declared.spot.Content.TheVariants.{Folder}
use Rattle.disk.specs.declared.spot.Spot.{Spot}
use Rattle.disk.specs.Spots.{entries_of, tree_of}

root : Spot
root = record { number = 0; path = []; content = Folder }

at_root : (p : Names) → reached (look (entries_of ((record { number = 0; path = []; content = Folder }) ∷ []))) p ≡ root_alone p
at_root [] = refl
at_root (x ∷ []) = refl
at_root (x ∷ y ∷ p) = refl

pub root_alone_of : (spots : List Spot) → spots ≡ (record { number = 0; path = []; content = Folder }) ∷ [] → tree_of spots ≡ root_alone
unfolding tree_of
root_alone_of spots is = ap (λ (l : List Spot). tree_of l) is ∙ fun_ext at_root
