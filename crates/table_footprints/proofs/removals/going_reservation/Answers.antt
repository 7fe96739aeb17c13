use Rattle.std.proofs.Common.{◌≡◌, ◌++◌, List, Contains, length, map, refl, sym, ◌∙◌, subst}
use Rattle.std.specs.List.{AllZip}
use Rattle.std.proofs.lemmas.List.{length-map}
use Rattle.std.proofs.lemmas.List.Elements.{Contains-push}
use Rattle.std.proofs.lemmas.Result.{err_from_is_err_and}
use Rattle.table_files.specs.OpenEntry.{files_of}
use Rattle.table_requests.specs.declared.data.Case.{Case}
use Rattle.paths.specs.Prefixes.{Name}
use Rattle.tree.specs.Places.{at_in}
use Rattle.table_footprints.specs.declared.refusal.FootprintRefusal.{FootprintRefusal}
use Rattle.table_footprints.specs.declared.refusal.FootprintRefusal.TheVariants as refusals
use Rattle.table_footprints.specs.declared.footprints.HoldMode.{HoldMode}
use Rattle.table_footprints.specs.Cases.{IsHidingCase, seen_of}
use Rattle.table_footprints.specs.Gatherings.{AreNames, AreRooted, IsBadFootprint, IsReserved, IsShortPath, IsReservation, exclusive_in, refusal_errno, location_of, locations_of, told}
use Rattle.table_footprints.specs.Laws.{base_of}
use Rattle.table_footprints.specs.declared.removals.Gone.{Gone}
use Rattle.table_footprints.specs.declared.footprints.UniformFootprint.{UniformFootprint}
use Rattle.table_footprints.specs.Removals.{IsGathered, IsRefusedGoing, going_footprint, going_locations}
use Rattle.table_footprints.specs.Footprints.{AtName, hidden_in, names_under}
use Rattle.table_footprints.proofs.Gathering.{bad_row}
use Rattle.table_footprints.proofs.Removing.{bad_more, folder_leads, going_agreed, going_bad, going_enough, going_lost, going_wrong, hiding_there, under_last}
use Rattle.table_footprints.proofs.removals.going_reservation.Goals as goal

under : (footprint : UniformFootprint) (gone : Gone) → locations_of footprint ≡ going_locations gone → Contains (map (λ l. base_of l) (locations_of footprint)) gone.parent
under footprint gone is = subst (λ ls. Contains (map (λ l. base_of l) ls) gone.parent) (sym is) (under_last (told gone.firsts.now) gone.parent gone.name.now)

pub returns-in_err-expect_rooted-clause-err : goal.returns-in_err-expect_rooted-clause-err
returns-in_err-expect_rooted-clause-err c =
    let p = err_from_is_err_and c.from_residual.result c.from_residual.ensures.1 in
    let at = at_in c.args.tree.now in
    let r = c.expect_rooted.ensures in
    let it = c.in_err-expect_rooted.ensures.err in
    let footprint = c.args.footprint.now in
    let gone = c.args.gone.now in
    let seen = seen_of c.args.tree.now c.args.files.now c.args.counter in
    let case = hiding_there at _ _ r.tree r.census (files_of c.args.files.now) c.len-files.ensures.law c.args.counter gone.parent gone.name.now gone.may_hide in
    rw (p.1, p.2) (subst (λ (k : FootprintRefusal). IsRefusedGoing seen footprint gone (refusal_errno k)) (sym it.0)
    (record { case = case.0; fits = case.1; unsound = going_lost at r.tree (locations_of footprint) footprint.change gone.parent (hidden_in case.0) it.1 }))

pub find-requires : goal.find-requires
find-requires c =
    let footprint = c.args.footprint.now in
    let gone = c.args.gone.now in
    folder_leads (locations_of footprint) gone.parent (at_in c.args.tree.now) c.in_ok-expect_rooted.ensures.ok (under c.args.footprint.now gone c.requires.locations)

pub returns-in_err-found-clause-err : goal.returns-in_err-found-clause-err
returns-in_err-found-clause-err c =
    let p = err_from_is_err_and c.from_residual-in_err-found.result c.from_residual-in_err-found.ensures.1 in
    let at = at_in c.args.tree.now in
    let r = c.expect_rooted.ensures in
    let footprint = c.args.footprint.now in
    let ls = locations_of footprint in
    let gone = c.args.gone.now in
    let case = hiding_there at _ _ r.tree r.census (files_of c.args.files.now) c.len-files.ensures.law c.args.counter gone.parent gone.name.now gone.may_hide in
    let l = AtName gone.parent gone.name.now in
    let here : Contains ls l = subst (λ ms. Contains ms l) (sym c.requires.locations) (Contains-push (told gone.firsts.now) l) in
    let bad = bad_more at ls (names_under gone.parent (hidden_in case.0)) c.in_err-found.field-0.0 (bad_row at ls l c.in_err-found.field-0.0 here c.in_err-found.ensures.err) in
    rw (p.1, p.2) (record { case = case.0; fits = case.1; unsound = going_bad at r.tree ls footprint.change gone.parent (hidden_in case.0) c.in_ok-expect_rooted.ensures.ok c.in_err-found.field-0.0 bad })

pub returns-in_err-candidates-clause-err : goal.returns-in_err-candidates-clause-err
returns-in_err-candidates-clause-err c =
    let p = err_from_is_err_and c.from_residual-in_err-candidates.result c.from_residual-in_err-candidates.ensures.1 in
    let at = at_in c.args.tree.now in
    let r = c.expect_rooted.ensures in
    let footprint = c.args.footprint.now in
    let gone = c.args.gone.now in
    let case = c.hiding_case-case.result in
    let fits = c.hiding_case-case.ensures at gone.parent gone.name.now r.tree c.in_ok-found.ensures.ok.node in
    rw (p.1, p.2) (record { case = case; fits = fits; unsound = going_bad at r.tree (locations_of footprint) footprint.change gone.parent (hidden_in case) c.in_ok-expect_rooted.ensures.ok refusals.Memory tt })

pub gathered-requires-clause-rooted : goal.gathered-requires-clause-rooted
gathered-requires-clause-rooted c = subst (λ ls. AreRooted (at_in c.args.tree.now) ls) c.requires.locations c.in_ok-expect_rooted.ensures.ok

pub returns-in_err-gathering-clause-err : goal.returns-in_err-gathering-clause-err
returns-in_err-gathering-clause-err c =
    let p = err_from_is_err_and c.from_residual-in_err-gathering.result c.from_residual-in_err-gathering.ensures.1 in
    let at = at_in c.args.tree.now in
    let r = c.expect_rooted.ensures in
    let footprint = c.args.footprint.now in
    let ls = locations_of footprint in
    let gone = c.args.gone.now in
    let case = c.hiding_case-case.result in
    let fits = c.hiding_case-case.ensures at gone.parent gone.name.now r.tree c.in_ok-found.ensures.ok.node in
    let hidden : c.as_slice.result.now ≡ hidden_in case = c.as_slice.ensures ∙ c.in_ok-candidates.ensures in
    let at_all = subst (λ ms. IsBadFootprint at (ms ++ names_under gone.parent c.as_slice.result.now) c.in_err-gathering.field-0.0) (sym c.requires.locations) c.in_err-gathering.ensures.err in
    let bad = subst (λ ns. IsBadFootprint at (ls ++ names_under gone.parent ns) c.in_err-gathering.field-0.0) hidden at_all in
    rw (p.1, p.2) (record { case = case; fits = fits; unsound = going_bad at r.tree ls footprint.change gone.parent (hidden_in case) c.in_ok-expect_rooted.ensures.ok c.in_err-gathering.field-0.0 bad })

pub expect_change-requires : goal.expect_change-requires
expect_change-requires c =
    let footprint = c.args.footprint.now in
    let ls = locations_of footprint in
    let hidden : c.as_slice.result.now ≡ hidden_in c.hiding_case-case.result = c.as_slice.ensures ∙ c.in_ok-candidates.ensures in
    let folder = c.args.gone.now.parent in
    let x = c.in_ok-gathering.gathering in
    let zip = subst (λ ms. AllZip (IsShortPath (at_in c.args.tree.now)) (ms ++ names_under folder c.as_slice.result.now) x.paths) (sym c.requires.locations) c.in_ok-gathering.ensures.ok.paths in
    rw c.as_slice-2.ensures (going_enough (at_in c.args.tree.now) c.expect_rooted.ensures.tree ls footprint.change folder c.as_slice.result.now x.paths (length footprint.locations.now)
    (sym (length-map footprint.locations.now (λ l. location_of l))) zip c.requires.fit.enough)

pub returns-in_err-expect_change-clause-err : goal.returns-in_err-expect_change-clause-err
returns-in_err-expect_change-clause-err c =
    let p = err_from_is_err_and c.from_residual-in_err-expect_change.result c.from_residual-in_err-expect_change.ensures.1 in
    let at = at_in c.args.tree.now in
    let r = c.expect_rooted.ensures in
    let footprint = c.args.footprint.now in
    let ls = locations_of footprint in
    let gone = c.args.gone.now in
    let x = c.in_ok-gathering.gathering in
    let case = c.hiding_case-case.result in
    let fits = c.hiding_case-case.ensures at gone.parent gone.name.now r.tree c.in_ok-found.ensures.ok.node in
    let hidden : c.as_slice.result.now ≡ hidden_in case = c.as_slice.ensures ∙ c.in_ok-candidates.ensures in
    let all = subst (λ ms. AllZip (IsShortPath at) (ms ++ names_under gone.parent c.as_slice.result.now) x.paths) (sym c.requires.locations) c.in_ok-gathering.ensures.ok.paths in
    let zip = subst (λ (ns : List Name). AllZip (IsShortPath at) (ls ++ names_under gone.parent ns) x.paths) hidden all in
    let wrong = rw c.as_slice-2.ensures at c.in_err-expect_change.ensures.err in
    rw (p.1, p.2) (record {
      case = case;
      fits = fits;
      unsound = going_wrong at r.tree ls footprint.change gone.parent (hidden_in case) x.paths c.in_ok-expect_rooted.ensures.ok zip (refusal_errno c.in_err-expect_change.field-0.0) wrong;
    })

pub returns-in_err-reservation-clause-err : goal.returns-in_err-reservation-clause-err
returns-in_err-reservation-clause-err c =
    let p = err_from_is_err_and c.from_residual-in_err-reservation.result c.from_residual-in_err-reservation.ensures.1 in
    let at = at_in c.args.tree.now in
    let r = c.expect_rooted.ensures in
    let footprint = c.args.footprint.now in
    let gone = c.args.gone.now in
    let case = c.hiding_case-case.result in
    let fits = c.hiding_case-case.ensures at gone.parent gone.name.now r.tree c.in_ok-found.ensures.ok.node in
    rw (p.1, p.2) (record { case = case; fits = fits; unsound = going_bad at r.tree (locations_of footprint) footprint.change gone.parent (hidden_in case) c.in_ok-expect_rooted.ensures.ok refusals.Memory tt })

pub returns-clause-ok : goal.returns-clause-ok
returns-clause-ok c =
    let at = at_in c.args.tree.now in
    let r = c.expect_rooted.ensures in
    let footprint = c.args.footprint.now in
    let ls = locations_of footprint in
    let gone = c.args.gone.now in
    let x = c.in_ok-gathering.gathering in
    let seen = seen_of c.args.tree.now c.args.files.now c.args.counter in
    let case = c.hiding_case-case.result in
    let fits = c.hiding_case-case.ensures at gone.parent gone.name.now r.tree c.in_ok-found.ensures.ok.node in
    let hidden : c.as_slice.result.now ≡ hidden_in case = c.as_slice.ensures ∙ c.in_ok-candidates.ensures in
    let all = subst (λ ms. IsGathered at ms (ms ++ names_under gone.parent c.as_slice.result.now) x) (sym c.requires.locations) c.in_ok-gathering.ensures.ok in
    let is : IsGathered at ls (ls ++ names_under gone.parent (hidden_in case)) x = subst (λ (ns : List Name). IsGathered at ls (ls ++ names_under gone.parent ns) x) hidden all in
    let may = rw c.as_slice-2.ensures at c.in_ok-expect_change.ensures.ok in
    let names = subst (λ (hold : HoldMode). AreNames (exclusive_in hold ls)) c.requires.exclusive c.requires.fit.names in
    let same = c.in_ok-reservation.ensures.case_is in
    let t = c.in_ok-reservation.reservation in
    record {
      fits = subst (λ (k : Case). IsHidingCase seen gone.parent gone.name.now gone.may_hide k) (sym same) fits;
      reservation = subst (λ (k : Case). IsReservation at (going_footprint footprint gone k) t) (sym same) (going_agreed at r.tree ls footprint.change gone.parent (hidden_in case) x case t c.in_ok-expect_rooted.ensures.ok (under footprint gone c.requires.locations) names is may
          (subst (λ (cs : List Name). IsReserved x case cs 0 0 t) c.in_ok-candidates.ensures c.in_ok-reservation.ensures) refl);
    }
