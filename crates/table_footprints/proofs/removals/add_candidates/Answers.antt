use Rattle.std.proofs.Common.{ℕ, ◌++◌, List, All, Contains, map, take, arith, sym, subst, refl}
use Rattle.std.proofs.lemmas.Result.{err_from_is_err_and}
use Rattle.holds.proofs.Among.{contains_read}
use Rattle.holds.specs.declared.held.GivenPath.{GivenPath}
use Rattle.tree.specs.Places.{IsPathOf, at_in}
use Rattle.table_footprints.specs.Gatherings.{told}
use Rattle.table_footprints.specs.Removals.{IsGathered, going_locations}
use Rattle.table_footprints.specs.Footprints.{AtName, names_under}
use Rattle.table_footprints.proofs.Gathering.{bad_row}
use Rattle.table_footprints.proofs.Removing.{beside_in, beside_more, beside_none, gathered_more, gathered_start, under_last}
use Rattle.table_footprints.proofs.removals.add_candidates.Goals as goal

pub folder_path-requires : goal.folder_path-requires
folder_path-requires c =
    let gone = c.args.gone.now in
    let x = c.args.gathering.now in
    subst (λ (leads : List GivenPath). Contains (map (λ (lead : GivenPath). lead.number) leads) gone.parent) (sym c.as_slice.ensures)
    (subst (λ (ns : List ℕ). Contains ns gone.parent) (sym c.requires.gathering.numbers) (under_last (told gone.firsts.now) gone.parent gone.name.now))

pub find_in-requires : goal.find_in-requires
find_in-requires c =
    let at = at_in c.args.tree.now in
    c.in_ok-place.ensures at (subst (λ (leads : List GivenPath). All (λ (lead : GivenPath). IsPathOf at lead.number lead.path) leads) (sym c.as_slice.ensures) c.requires.gathering.leads)

pub loop-other-init : goal.loop-other-init
loop-other-init c =
    let at = at_in c.args.tree.now in
    let gone = c.args.gone.now in
    let ls = going_locations gone in
    let x = c.args.gathering.now in
    record {
      gathered = subst (λ ms. IsGathered at ls ms x) (sym (beside_none ls gone.parent)) (gathered_start at ls x c.requires.gathering);
      room = omega (arith, c.requires.room);
    }

pub returns-in_err-found-clause-err : goal.returns-in_err-found-clause-err
returns-in_err-found-clause-err c =
    let p = err_from_is_err_and c.from_residual-in_err-found.result c.from_residual-in_err-found.ensures.1 in
    let gone = c.args.gone.now in
    let ls = going_locations gone in
    let names = c.args.beside.now in
    let other = c.other-item.result in
    let here : Contains names other = contains_read names c.loop-other.other-index other other c.loop-other-test.true c.other-item.is refl in
    rw (p.1, p.2) (bad_row (at_in c.args.tree.now) (ls ++ names_under gone.parent names) (AtName gone.parent other) c.in_err-found.field-0.0 (beside_in ls gone.parent names other here) c.in_err-found.ensures.err)

pub loop-other-preserved : goal.loop-other-preserved
loop-other-preserved c =
    let at = at_in c.args.tree.now in
    let gone = c.args.gone.now in
    let ls = going_locations gone in
    let folder = gone.parent in
    let names = c.args.beside.now in
    let i = c.loop-other.other-index in
    let other = c.other-item.result in
    record {
      gathered = subst (λ ms. IsGathered at ls ms c.add_beside.new.gathering) (sym (beside_more ls folder names i other c.loop-other-test.true c.other-item.is))
          (gathered_more at c.requires.tree ls (ls ++ names_under folder (take i names)) (AtName folder other) c.in_ok-found.found c.loop-other.gathering c.add_beside.new.gathering c.loop-other.invariant.gathered c.in_ok-found.ensures.ok c.in_ok-add_beside.ensures);
      room = omega (arith, c.in_ok-add_beside.ensures.room, c.loop-other.invariant.room);
    }
