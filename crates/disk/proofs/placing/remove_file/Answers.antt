use Rattle.std.proofs.Common.{List, Option, subst, sym}
use Rattle.backing.specs.declared.entries.Item.{Item}
use Rattle.backing.specs.Tree.{IsOther}
use Rattle.disk.specs.declared.spot.Spot.{Spot}
use Rattle.disk.specs.Spots.{IsSpotAt}
use Rattle.disk.proofs.Spotting.{content_at}
use Rattle.disk.proofs.PutAndRemove.{other_content, removed_file}
use Rattle.disk.proofs.placing.remove_file.Goals as goal

pub returns : goal.returns
returns c =
    let old = c.args.spots.now.items in
    let p = c.args.path.now in
    let i = c.in-Some.i in
    let spot = c.index-spot.result.now in
    let at = subst (λ (spots : List Spot). IsSpotAt spots p i) c.deref.ensures.value c.in-Some.ensures.found in
    let stands = content_at old p i spot at c.index-spot.ensures in
    let other = subst (λ (o : Option Item). IsOther o) (sym stands) (other_content spot.content c.in-File.is) in
    let it = removed_file old c.remove-gone.new.self.items p i c.requires.lawful at c.requires.below_root other c.remove-gone.ensures.items in
    record { removes = it.removes; lawful = it.lawful; none = it.none }
