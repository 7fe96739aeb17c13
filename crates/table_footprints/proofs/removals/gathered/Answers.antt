use Rattle.std.proofs.Common.{◌≡◌, ◌++◌, List, [], rules, sym, subst}
use Rattle.std.proofs.lemmas.List.{nil_from_length}
use Rattle.std.proofs.lemmas.Result.{err_from_is_err_and}
use Rattle.paths.specs.Prefixes.{Name}
use Rattle.tree.specs.Places.{at_in}
use Rattle.table_footprints.specs.Removals.{IsGathered, going_locations}
use Rattle.table_footprints.specs.Footprints.{names_under}
use Rattle.table_footprints.proofs.Removing.{bad_more, beside_none, gathered_start}
use Rattle.table_footprints.proofs.removals.gathered.Goals as goal

pub returns-in_err-gathering-clause-err : goal.returns-in_err-gathering-clause-err
returns-in_err-gathering-clause-err c =
    let p = err_from_is_err_and c.from_residual.result c.from_residual.ensures.1 in
    let gone = c.args.gone.now in
    rw (p.1, p.2) (bad_more (at_in c.args.tree.now) (going_locations gone) (names_under gone.parent c.args.beside.now) c.in_err-gathering.field-0.0 c.in_err-gathering.ensures.err)

pub returns-then-is_empty-clause-ok : goal.returns-then-is_empty-clause-ok
returns-then-is_empty-clause-ok c =
    let at = at_in c.args.tree.now in
    let gone = c.args.gone.now in
    let ls = going_locations gone in
    let x = c.in_ok-gathering.gathering in
    let none : c.args.beside.now ≡ [] = nil_from_length c.args.beside.now (search rules) in
    subst (λ (names : List Name). IsGathered at ls (ls ++ names_under gone.parent names) x) (sym none) (subst (λ ms. IsGathered at ls ms x) (sym (beside_none ls gone.parent)) (gathered_start at ls x c.in_ok-gathering.ensures.ok))

pub returns-in_err-add_candidates-clause-err : goal.returns-in_err-add_candidates-clause-err
returns-in_err-add_candidates-clause-err c =
    let p = err_from_is_err_and c.from_residual-in_err-add_candidates.result c.from_residual-in_err-add_candidates.ensures.1 in
    rw (p.1, p.2) c.in_err-add_candidates.ensures.err
