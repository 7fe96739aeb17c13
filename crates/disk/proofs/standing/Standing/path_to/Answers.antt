use Rattle.std.proofs.Common.{◌≡◌, [], List, Some, ap, ◌∙◌, subst}
use Rattle.paths.specs.Prefixes.{Names}
use Rattle.backing.specs.declared.entries.Item.TheVariants as items
use Rattle.backing.specs.Tree.{Resolves}
use Rattle.disk.specs.ReachedLemmas.{tree_of_is_tree}
use Rattle.disk.specs.declared.spot.Content.{Content}
use Rattle.disk.specs.declared.spot.Spot.{Spot}
use Rattle.disk.specs.Spots.{item_of, tree_of, LeadsTo}
use Rattle.disk.proofs.Spotting.{spot_is}
use Rattle.disk.proofs.Leading.{leads_in}
use Rattle.disk.proofs.standing.Standing.path_to.Goals as goal

pub returns-in-Ok-clause-leads : goal.returns-in-Ok-clause-leads
returns-in-Ok-clause-leads c =
    let spots = c.self.inside.list.items in
    let x = c.index-spot.result.now in
    let found = subst (λ (l : List Spot). LeadsTo l c.args.dir c.in-Some.i) c.deref.ensures.value c.in-Some.ensures.found in
    let it = spot_is spots found.path c.in-Some.i x found.at c.index-spot.ensures in
    let folder : tree_of spots x.path ≡ Some items.Folder = ap (λ (p : Names). tree_of spots p) it.path ∙ (it.stands ∙ ap (λ (content : Content). Some (item_of content)) c.in-Folder.is) in
    subst (λ (l : List Spot). Resolves (tree_of l) c.in-Ok.path × (c.in-Ok.path ≡ [] → ⊥)) c.self.view_is (leads_in (tree_of spots) x.path c.in-Ok.path c.args.name.now (tree_of_is_tree spots) folder c.in-Ok.ensures)
