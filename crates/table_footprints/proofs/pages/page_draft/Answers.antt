use Rattle.std.proofs.Common.{ℕ, List, [], ◌∷◌, All, Contains, map, take, arith, sym, subst, refl}
use Rattle.std.proofs.lemmas.Result.{err_from_is_err_and}
use Rattle.holds.proofs.Among.{contains_read}
use Rattle.holds.specs.declared.held.GivenPath.{GivenPath}
use Rattle.tree.specs.Places.{IsPathOf, at_in}
use Rattle.table_footprints.specs.Pages.{IsPage}
use Rattle.table_footprints.specs.Footprints.{AtName, AtNode, page_names}
use Rattle.table_footprints.proofs.Gathering.{bad_row}
use Rattle.table_footprints.proofs.Members.{first_in}
use Rattle.table_footprints.proofs.Paging.{name_in, names_more, page_more}
use Rattle.table_footprints.proofs.pages.page_draft.Goals as goal

pub returns-in_err-found-clause-err : goal.returns-in_err-found-clause-err
returns-in_err-found-clause-err c =
    let p = err_from_is_err_and c.from_residual-in_err-found.result c.from_residual-in_err-found.ensures.1 in
    let names = c.args.names.now in
    let name = c.name-item.result in
    let here : Contains names name = contains_read names c.loop-name.name-index name name c.loop-name-test.true c.name-item.is refl in
    rw (p.1, p.2) (bad_row (at_in c.args.tree.now) (AtNode c.args.folder ∷ page_names c.args.folder names) (AtName c.args.folder name) c.in_err-found.field-0.0 (name_in c.args.folder names name here) c.in_err-found.ensures.err)

pub folder_path-requires : goal.folder_path-requires
folder_path-requires c =
    let folder = c.args.folder in
    subst (λ (leads : List GivenPath). Contains (map (λ (lead : GivenPath). lead.number) leads) folder) (sym c.as_slice.ensures) (subst (λ (ns : List ℕ). Contains ns folder) (sym c.in_ok-gathering.ensures.ok.numbers) (first_in folder []))

pub find_in-requires : goal.find_in-requires
find_in-requires c =
    let at = at_in c.args.tree.now in
    c.in_ok-place.ensures at (subst (λ (leads : List GivenPath). All (λ (lead : GivenPath). IsPathOf at lead.number lead.path) leads) (sym c.as_slice.ensures) c.in_ok-gathering.ensures.ok.leads)

pub loop-name-preserved : goal.loop-name-preserved
loop-name-preserved c =
    let at = at_in c.args.tree.now in
    let folder = c.args.folder in
    let names = c.args.names.now in
    let i = c.loop-name.name-index in
    let name = c.name-item.result in
    record {
      page = subst (λ ls. IsPage at folder ls c.add_name.new.gathering) (sym (names_more folder names i name c.loop-name-test.true c.name-item.is))
          (page_more at c.requires.tree folder (page_names folder (take i names)) (AtName folder name) c.in_ok-found.found c.loop-name.gathering c.add_name.new.gathering c.loop-name.invariant.page c.in_ok-found.ensures.ok c.in_ok-add_name.ensures);
      room = omega (arith, c.in_ok-add_name.ensures.room, c.loop-name.invariant.room);
    }
