use Rattle.std.proofs.Common.{◌≡◌, IfSome, IfNone, List, None, map, ap, ◌∙◌, subst}
use Rattle.disk.specs.declared.spot.Spot.{Spot}
use Rattle.disk.specs.Answers.{new_path}
use Rattle.disk.specs.Spots.{tree_of, IsSpotAt}
use Rattle.disk.proofs.Renaming.{renames, place_within}
use Rattle.disk.proofs.moving.move_all.Goals as goal

pub clear-requires : goal.clear-requires
clear-requires c =
    let t = c.args.to.now in
    let target = c.index_at-target.result in
    let some = subst (λ (spots : List Spot). IfSome target (λ i. IsSpotAt spots t i)) c.deref.ensures.value c.index_at-target.ensures.found in
    place_within c.args.spots.now.items c.set_paths.new.spots.items c.in_ok-paths.paths.items t target some c.set_paths.ensures

pub returns : goal.returns
returns c =
    let old = c.args.spots.now.items in
    let s = c.args.from.now in
    let t = c.args.to.now in
    let target = c.index_at-target.result in
    let some = subst (λ (spots : List Spot). IfSome target (λ i. IsSpotAt spots t i)) c.deref.ensures.value c.index_at-target.ensures.found in
    let none = subst (λ (spots : List Spot). IfNone target (tree_of spots t ≡ None)) c.deref.ensures.value c.index_at-target.ensures.none in
    let paths = c.in_ok-paths.ensures ∙ ap (λ (spots : List Spot). map (λ (x : Spot). new_path s t x.path) spots) c.deref-2.ensures.value in
    let it = renames old c.set_paths.new.spots.items c.clear.new.spots.items c.in_ok-paths.paths.items s t target c.requires.lawful c.requires.below_root c.requires.apart c.requires.leads c.requires.bare none some paths c.set_paths.ensures c.clear.ensures in
    record { ok = it.moves; err = tt; lawful = it.lawful }
