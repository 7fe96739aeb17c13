use Rattle.std.proofs.Common.{take, arith, sym, subst}
use Rattle.std.proofs.lemmas.Result.{err_from_is_err_and}
use Rattle.tree.specs.Places.{at_in}
use Rattle.table_footprints.specs.Gatherings.{Adds, IsGathering, IsRootedAt, location_of, told}
use Rattle.table_footprints.proofs.Gathering.{bad_row, draft_more, draft_none, told_in, told_more}
use Rattle.table_footprints.proofs.Members.{all_in}
use Rattle.table_footprints.proofs.gatherings.gather.Goals as goal

pub loop-location-init : goal.loop-location-init
loop-location-init c = record {
  gathering = draft_none (at_in c.args.tree.now) c.args.hold c.args.gathering.now.pins.room c.args.gathering.now c.requires.empty;
  room = omega arith;
}

pub find-requires : goal.find-requires
find-requires c =
    let ls = c.args.locations.now in
    let l = c.location-item.result in
    all_in (IsRootedAt (at_in c.args.tree.now)) (told ls) (location_of l) c.requires.rooted (told_in ls c.loop-location.location-index l c.loop-location-test.true c.location-item.is)

pub returns-in_err-found-clause-err : goal.returns-in_err-found-clause-err
returns-in_err-found-clause-err c =
    let ls = c.args.locations.now in
    let l = c.location-item.result in
    let p = err_from_is_err_and c.from_residual.result c.from_residual.ensures.1 in
    rw (p.1, p.2) (bad_row (at_in c.args.tree.now) (told ls) (location_of l) c.in_err-found.field-0.0 (told_in ls c.loop-location.location-index l c.loop-location-test.true c.location-item.is) c.in_err-found.ensures.err)

pub loop-location-preserved : goal.loop-location-preserved
loop-location-preserved c =
    let at = at_in c.args.tree.now in
    let hold = c.args.hold in
    let ls = c.args.locations.now in
    let i = c.loop-location.location-index in
    let l = c.location-item.result in
    let adds : Adds c.loop-location.gathering c.base.result c.in_ok-found.found hold c.add.new.self = c.in_ok-add.ensures in
    record {
      gathering = subst (λ ms. IsGathering at hold ms c.add.new.self) (sym (told_more ls i l c.loop-location-test.true c.location-item.is))
          (draft_more at c.requires.tree (location_of l) c.in_ok-found.found c.in_ok-found.ensures.ok hold (told (take i ls)) c.loop-location.gathering c.add.new.self c.loop-location.invariant.gathering
          (subst (λ n. Adds c.loop-location.gathering n c.in_ok-found.found hold c.add.new.self) c.base.ensures adds));
      room = omega (arith, adds.room, c.loop-location.invariant.room);
    }
