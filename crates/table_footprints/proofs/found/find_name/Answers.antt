use Rattle.std.proofs.Common.{ℕ, ◌≡◌, ◌↔◌, Some, sym, subst}
use Rattle.std.proofs.lemmas.Result.{err_from_is_err_and}
use Rattle.paths.specs.Prefixes.{Name}
use Rattle.tree.specs.Moves.{IsNameFault, IsPathOfName}
use Rattle.tree.specs.Places.{IsPathOf, at_in}
use Rattle.table_footprints.specs.Asked.{IsThere}
use Rattle.table_footprints.specs.Footprints.{AtName}
use Rattle.table_footprints.proofs.Finding.{name_found, name_refused}
use Rattle.table_footprints.proofs.found.find_name.Goals as goal

pub returns-in_err-path-clause-err : goal.returns-in_err-path-clause-err
returns-in_err-path-clause-err c =
    let p = err_from_is_err_and c.from_residual-in_err-path.result c.from_residual-in_err-path.ensures.1 in
    let bad = subst (λ (name : Name). IsNameFault (at_in c.args.tree.now) c.args.parent name c.in_err-path.field-0.0) c.in_ok-name.ensures c.in_err-path.ensures.err in
    rw (p.1, p.2) (name_refused (at_in c.args.tree.now) c.path_of_name.ensures.tree c.args.parent c.requires c.args.name.now c.in_err-path.field-0.0 bad)

pub returns-clause-ok : goal.returns-clause-ok
returns-clause-ok c =
    let at = at_in c.args.tree.now in
    let it : IsPathOfName at c.args.parent c.args.name.now c.in_ok-path.path = subst (λ (name : Name). IsPathOfName at c.args.parent name c.in_ok-path.path) c.in_ok-name.ensures c.in_ok-path.ensures.ok.0 in
    let there : (n : ℕ) → (c.find-node.result ≡ Some n) ↔ IsThere at (AtName c.args.parent c.args.name.now) n
    = subst (λ (name : Name). (n : ℕ) → (c.find-node.result ≡ Some n) ↔ IsThere at (AtName c.args.parent name) n) c.in_ok-name.ensures
    (name_found at c.path_of_name.ensures.tree c.args.parent c.in_ok-name.name c.find-node.result c.find-node.ensures.none c.find-node.ensures.some) in
    record {
      above = subst (λ p. IsPathOf at c.args.parent p) (sym (c.in_ok-above.ensures it.above c.args.name.now it.whole)) it.leads;
      path = it;
      short = c.in_ok-path.ensures.ok.1;
      node = there;
    }
