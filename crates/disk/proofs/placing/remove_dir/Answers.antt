use Rattle.std.proofs.Common.{List, Some, ap, ◌∙◌, subst}
use Rattle.backing.specs.Tree.{IsBare}
use Rattle.disk.specs.declared.spot.Content.{Content}
use Rattle.disk.specs.declared.spot.Spot.{Spot}
use Rattle.disk.specs.Spots.{item_of, tree_of, IsSpotAt}
use Rattle.disk.proofs.Spotting.{content_at}
use Rattle.disk.proofs.PutAndRemove.{removed_folder}
use Rattle.disk.proofs.placing.remove_dir.Goals as goal

pub returns : goal.returns
returns c =
    let old = c.args.spots.now.items in
    let p = c.args.path.now in
    let i = c.in-Some.i in
    let at = subst (λ (spots : List Spot). IsSpotAt spots p i) c.deref.ensures.value c.in-Some.ensures.found in
    let stands = content_at old p i c.index-spot.result.now at c.index-spot.ensures ∙ ap (λ (content : Content). Some (item_of content)) c.in-Folder.is in
    let bare = subst (λ (spots : List Spot). IsBare (tree_of spots) p) c.deref-2.ensures.value (c.has_names.ensures.no c.if-has_names.false) in
    let it = removed_folder old c.remove-gone.new.self.items p i c.requires.lawful at c.requires.below_root stands bare c.remove-gone.ensures.items in
    record { removes = it.removes; lawful = it.lawful; none = it.none }
