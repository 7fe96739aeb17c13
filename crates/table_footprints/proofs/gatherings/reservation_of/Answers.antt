use Rattle.std.proofs.Common.{◌≡◌, [], List, length, sym, subst, ap, ◌∙◌, arith, rules}
use Rattle.std.proofs.lemmas.List.{length-map}
use Rattle.std.proofs.lemmas.Result.{err_from_is_err_and}
use Rattle.paths.specs.Prefixes.{Name, Names}
use Rattle.table_requests.specs.Roomy.{Pinned}
use Rattle.tree.specs.Places.{at_in}
use Rattle.table_footprints.specs.declared.refusal.FootprintRefusal.{FootprintRefusal}
use Rattle.table_footprints.specs.declared.refusal.FootprintRefusal.TheVariants.{Memory}
use Rattle.table_footprints.specs.Asked.{IsUnsound}
use Rattle.table_footprints.specs.Gatherings.{IsReserved, IsShortPath, entries_of, footprint_from, entered_case, refusal_errno, location_of, locations_of}
use Rattle.table_footprints.specs.Footprints.{births_in}
use Rattle.table_footprints.proofs.Agreeing.{agreed, bad_refused, change_refused, enough_paths, lost_refused}
use Rattle.table_footprints.proofs.Members.{zip_length}
use Rattle.table_footprints.proofs.gatherings.reservation_of.Goals as goal

pub returns-in_err-expect_rooted-clause-err : goal.returns-in_err-expect_rooted-clause-err
returns-in_err-expect_rooted-clause-err c =
    let p = err_from_is_err_and c.from_residual.result c.from_residual.ensures.1 in
    let footprint = c.args.footprint.now in
    let it = c.in_err-expect_rooted.ensures.err in
    rw (p.1, p.2) (λ k. subst (λ (r : FootprintRefusal). IsUnsound (at_in c.args.tree.now) (footprint_from footprint k) (refusal_errno r)) (sym it.0) (lost_refused (at_in c.args.tree.now) c.expect_rooted.ensures.tree (locations_of footprint) footprint.hold footprint.enters footprint.change k it.1))

pub returns-in_err-gathering-clause-err : goal.returns-in_err-gathering-clause-err
returns-in_err-gathering-clause-err c =
    let p = err_from_is_err_and c.from_residual-in_err-gathering.result c.from_residual-in_err-gathering.ensures.1 in
    let footprint = c.args.footprint.now in
    rw (p.1, p.2) (λ k. bad_refused (at_in c.args.tree.now) c.expect_rooted.ensures.tree (locations_of footprint) footprint.hold footprint.enters footprint.change k c.in_ok-expect_rooted.ensures.ok Memory tt)

pub returns-in_err-gather-clause-err : goal.returns-in_err-gather-clause-err
returns-in_err-gather-clause-err c =
    let p = err_from_is_err_and c.from_residual-in_err-gather.result c.from_residual-in_err-gather.ensures.1 in
    let footprint = c.args.footprint.now in
    rw (p.1, p.2) (λ k. bad_refused (at_in c.args.tree.now) c.expect_rooted.ensures.tree (locations_of footprint) footprint.hold footprint.enters footprint.change k c.in_ok-expect_rooted.ensures.ok c.in_err-gather.field-0.0 c.in_err-gather.ensures.err)

pub expect_change-requires : goal.expect_change-requires
expect_change-requires c =
    let footprint = c.args.footprint.now in
    enough_paths footprint.change (length footprint.locations.now) (length c.as_slice.result.now)
    (sym (length-map footprint.locations.now (λ l. location_of l)) ∙ (zip_length (IsShortPath (at_in c.args.tree.now)) (locations_of footprint) c.gather.new.gathering.paths c.in_ok-gather.ensures.ok.paths ∙ ap (λ (ps : List Names). length ps) (sym c.as_slice.ensures)))
    c.requires.enough

pub returns-in_err-expect_change-clause-err : goal.returns-in_err-expect_change-clause-err
returns-in_err-expect_change-clause-err c =
    let p = err_from_is_err_and c.from_residual-in_err-expect_change.result c.from_residual-in_err-expect_change.ensures.1 in
    let footprint = c.args.footprint.now in
    let wrong = rw c.as_slice.ensures at c.in_err-expect_change.ensures.err in
    rw (p.1, p.2) (λ k. change_refused (at_in c.args.tree.now) c.expect_rooted.ensures.tree (locations_of footprint) footprint.hold footprint.enters footprint.change k c.gather.new.gathering.paths c.in_ok-expect_rooted.ensures.ok c.in_ok-gather.ensures.ok.paths (refusal_errno c.in_err-expect_change.field-0.0) wrong)

pub returns-in_err-reservation-clause-err : goal.returns-in_err-reservation-clause-err
returns-in_err-reservation-clause-err c =
    let p = err_from_is_err_and c.from_residual-in_err-reservation.result c.from_residual-in_err-reservation.ensures.1 in
    let footprint = c.args.footprint.now in
    rw (p.1, p.2) (λ k. bad_refused (at_in c.args.tree.now) c.expect_rooted.ensures.tree (locations_of footprint) footprint.hold footprint.enters footprint.change k c.in_ok-expect_rooted.ensures.ok Memory tt)

pub returns-clause-ok : goal.returns-clause-ok
returns-clause-ok c =
    let x = c.gather.new.gathering in
    let footprint = c.args.footprint.now in
    let case = c.entered_case-case.ensures in
    let births : c.births_in.result ≡ births_in (entered_case x.absent footprint.enters) = c.births_in.ensures ∙ ap births_in case in
    let drawn : IsReserved x (entered_case x.absent footprint.enters) [] c.births_in.result c.from-entries.result c.in_ok-reservation.reservation
    = subst (λ (names : List Name). IsReserved x (entered_case x.absent footprint.enters) names c.births_in.result c.from-entries.result c.in_ok-reservation.reservation) c.new-2.ensures
    (subst (λ k. IsReserved x k c.new-2.result c.births_in.result c.from-entries.result c.in_ok-reservation.reservation) case c.in_ok-reservation.ensures) in
    let counted : c.from-entries.result ≡ entries_of footprint = search rules in
    agreed (at_in c.args.tree.now) c.expect_rooted.ensures.tree footprint x c.births_in.result c.from-entries.result c.in_ok-reservation.reservation c.requires c.in_ok-expect_rooted.ensures.ok c.in_ok-gather.ensures.ok
    (rw c.as_slice.ensures at c.in_ok-expect_change.ensures.ok) counted births (omega (arith, counted, c.in_ok-gather.ensures.room, ap (λ (p : Pinned). p.room) c.in_ok-gathering.ensures.pins)) drawn
