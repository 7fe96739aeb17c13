use Rattle.std.proofs.Common.{ℕ, List, [], ◌∷◌, length, sym, subst}
use Rattle.std.proofs.lemmas.Result.{err_from_is_err_and}
use Rattle.paths.specs.Prefixes.{Name}
use Rattle.table_requests.specs.declared.data.Case.TheVariants as cases
use Rattle.tree.specs.Places.{Lookup, Leads, at_in}
use Rattle.table_footprints.specs.declared.refusal.FootprintRefusal.{FootprintRefusal}
use Rattle.table_footprints.specs.declared.refusal.FootprintRefusal.TheVariants.{Memory}
use Rattle.table_footprints.specs.Asked.{IsUnsound}
use Rattle.table_footprints.specs.Gatherings.{AreRooted, IsLost, IsReserved, IsRootedAt, refusal_errno}
use Rattle.table_footprints.specs.Footprints.{AtNode, page_footprint}
use Rattle.table_footprints.proofs.Members.{all_in, any_only, first_in}
use Rattle.table_footprints.proofs.Paging.{page_agreed, page_bad, page_lost}
use Rattle.table_footprints.proofs.pages.page_reservation.Goals as goal

folder_leads : (at : Lookup) (folder : ℕ) → AreRooted at (AtNode folder ∷ []) → Leads at folder
folder_leads at folder rooted = all_in (IsRootedAt at) (AtNode folder ∷ []) (AtNode folder) rooted (first_in (AtNode folder) [])

pub returns-in_err-expect_rooted-clause-err : goal.returns-in_err-expect_rooted-clause-err
returns-in_err-expect_rooted-clause-err c =
    let p = err_from_is_err_and c.from_residual.result c.from_residual.ensures.1 in
    let at = at_in c.args.tree.now in
    let it = c.in_err-expect_rooted.ensures.err in
    rw (p.1, p.2) (subst (λ (r : FootprintRefusal). IsUnsound at (page_footprint c.args.folder c.args.names.now) (refusal_errno r)) (sym it.0)
    (page_lost at c.expect_rooted.ensures.tree c.args.folder c.args.names.now (any_only (IsLost at) (AtNode c.args.folder) it.1)))

pub returns-in_err-gathering-clause-err : goal.returns-in_err-gathering-clause-err
returns-in_err-gathering-clause-err c =
    let p = err_from_is_err_and c.from_residual-in_err-gathering.result c.from_residual-in_err-gathering.ensures.1 in
    rw (p.1, p.2) (page_bad (at_in c.args.tree.now) c.expect_rooted.ensures.tree c.args.folder c.args.names.now (folder_leads (at_in c.args.tree.now) c.args.folder c.in_ok-expect_rooted.ensures.ok) c.in_err-gathering.field-0.0 c.in_err-gathering.ensures.err)

pub returns-in_err-reservation-clause-err : goal.returns-in_err-reservation-clause-err
returns-in_err-reservation-clause-err c =
    let p = err_from_is_err_and c.from_residual-in_err-reservation.result c.from_residual-in_err-reservation.ensures.1 in
    rw (p.1, p.2) (page_bad (at_in c.args.tree.now) c.expect_rooted.ensures.tree c.args.folder c.args.names.now (folder_leads (at_in c.args.tree.now) c.args.folder c.in_ok-expect_rooted.ensures.ok) Memory tt)

pub returns-clause-ok : goal.returns-clause-ok
returns-clause-ok c = (
  c.in_ok-reservation.ensures.case_is,
  page_agreed (at_in c.args.tree.now) c.expect_rooted.ensures.tree c.args.folder c.args.names.now c.in_ok-gathering.gathering c.in_ok-reservation.reservation
      (folder_leads (at_in c.args.tree.now) c.args.folder c.in_ok-expect_rooted.ensures.ok) c.in_ok-gathering.ensures.ok c.in_ok-gathering.ensures.room
      (subst (λ (cs : List Name). IsReserved c.in_ok-gathering.gathering cases.Plain cs (length c.args.names.now) (length c.args.names.now) c.in_ok-reservation.reservation) c.new.ensures c.in_ok-reservation.ensures),
)
