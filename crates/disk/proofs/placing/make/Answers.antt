use Rattle.std.proofs.Common.{◌≡◌, List, None, subst}
use Rattle.disk.specs.declared.spot.Spot.{Spot}
use Rattle.disk.specs.Spots.{tree_of}
use Rattle.disk.proofs.PutAndRemove.{made_spot}
use Rattle.disk.proofs.placing.make.Goals as goal

pub returns-in-Ok-push : goal.returns-in-Ok-push
returns-in-Ok-push c =
    let old = c.args.spots.now.items in
    let p = c.args.path.now in
    let x : Spot = record { number = c.args.number; path = c.in-Ok.path; content = c.args.content } in
    let free : tree_of old p ≡ None = subst (λ (spots : List Spot). tree_of spots p ≡ None) c.deref.ensures.value c.in-None.ensures.none in
    let it = made_spot old c.push.new.spots.items x p c.in-Ok-push.ensures.ok c.in-Ok.ensures c.requires.lawful c.requires.leads free c.requires.fresh in
    record { made = it.made; number = it.number_leads; not = tt; err = tt; lawful = it.lawful; others = it.others }
