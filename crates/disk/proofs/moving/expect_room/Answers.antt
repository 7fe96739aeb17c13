use Rattle.disk.specs.ReachedLemmas.{tree_of_is_tree}
use Rattle.disk.specs.Spots.{item_of, tree_of}
use Rattle.disk.proofs.Spotting.{content_at}
use Rattle.disk.proofs.MoveRoom.{moves_free, cannot_move, moves_onto, moves_onto_names}
use Rattle.disk.proofs.moving.expect_room.Goals as goal

pub returns-in_default-index_at-clause-ok : goal.returns-in_default-index_at-clause-ok
returns-in_default-index_at-clause-ok c =
    let spots = c.args.spots.now in
    let source = c.in-Some.ensures.found in
    moves_free (tree_of spots) c.args.from.now c.args.to.now (item_of source.spot.content) (tree_of_is_tree spots) source.stands c.in_default-index_at.ensures.none

pub returns-in-Err-clause-err : goal.returns-in-Err-clause-err
returns-in-Err-clause-err c =
    let spots = c.args.spots.now in
    let s = c.args.from.now in
    let t = c.args.to.now in
    let x = c.index-spots-i.result in
    let y = c.index-spots-j.result in
    cannot_move (tree_of spots) s t x.content y.content c.in-Err.error (content_at spots s c.in-Some.i x c.in-Some.ensures.found c.index-spots-i.is) (content_at spots t c.in-Some-index_at.j y c.in-Some-index_at.ensures.found c.index-spots-j.is) c.in-Err.ensures

pub returns-then-has_names-clause-err : goal.returns-then-has_names-clause-err
returns-then-has_names-clause-err c =
    let spots = c.args.spots.now in
    let s = c.args.from.now in
    let t = c.args.to.now in
    let x = c.index-spots-i.result in
    let y = c.index-spots-j.result in
    moves_onto_names (tree_of spots) s t x.content y.content (tree_of_is_tree spots) (content_at spots s c.in-Some.i x c.in-Some.ensures.found c.index-spots-i.is) (content_at spots t c.in-Some-index_at.j y c.in-Some-index_at.ensures.found c.index-spots-j.is) c.in-Ok.ensures (c.has_names.ensures.yes c.if-has_names.true)

pub returns-else-has_names-clause-ok : goal.returns-else-has_names-clause-ok
returns-else-has_names-clause-ok c =
    let spots = c.args.spots.now in
    let s = c.args.from.now in
    let t = c.args.to.now in
    let x = c.index-spots-i.result in
    let y = c.index-spots-j.result in
    moves_onto (tree_of spots) s t x.content y.content (content_at spots s c.in-Some.i x c.in-Some.ensures.found c.index-spots-i.is) (content_at spots t c.in-Some-index_at.j y c.in-Some-index_at.ensures.found c.index-spots-j.is) c.in-Ok.ensures (c.has_names.ensures.no c.if-has_names.false)
