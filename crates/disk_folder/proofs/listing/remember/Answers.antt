use Rattle.std.proofs.Common.{◌++◌, ◌∷◌, [], sym, subst}
use Rattle.std.specs.List.{All}
use Rattle.paths.specs.Prefixes.{Names}
use Rattle.disk_folder.specs.declared.listing.SeenName.{SeenName}
use Rattle.disk_folder.specs.Seen.{IsSeen}
use Rattle.disk_folder.proofs.ListLemmas.{all_seen}
use Rattle.disk_folder.proofs.listing.remember.Goals as goal

pub returns-in-Ok : goal.returns-in-Ok
returns-in-Ok c = λ at each.
    let seen = c.args.seen.items in
    subst (λ (p : Names). All (λ (one : SeenName). IsSeen at (p ++ one.name ∷ []) one.seen) seen) (sym c.in-Ok.ensures) (all_seen at c.args.path.now seen each)
