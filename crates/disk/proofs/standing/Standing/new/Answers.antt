use Rattle.std.proofs.Common.{List, [], ◌∷◌, ◌++◌, ap, ◌∙◌}
use Rattle.paths.specs.Prefixes.{Names}
use Rattle.disk.specs.declared.spot.Content.TheVariants.{Folder}
use Rattle.disk.specs.declared.spot.Spot.{Spot}
use Rattle.disk.proofs.RootAlone.{root_alone_of}
use Rattle.disk.proofs.standing.Standing.new.Goals as goal

pub returns : goal.returns
returns c =
    let root : Names → Spot = λ p. record { number = 0; path = p; content = Folder } in
    root_alone_of c.push.new.self.items (c.in_ok-push.ensures.items ∙ (ap (λ (l : List Spot). l ++ root c.in_ok-path.path ∷ []) c.new-list.ensures.items ∙ ap (λ (p : Names). root p ∷ []) (c.in_ok-path.ensures ∙ c.new.ensures.items)))
