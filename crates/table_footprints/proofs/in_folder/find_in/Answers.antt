use Rattle.std.proofs.Common.{ℕ, ◌≡◌, ◌≤◌, ◌↔◌, ◌++◌, ◌∷◌, [], Some, arith, refl, sym, subst, ap, ◌∙◌}
use Rattle.paths.specs.Prefixes.{Name, Names, path_bytes}
use Rattle.paths.proofs.PrefixLemmas.{path_bytes-push}
use Rattle.tree.specs.Places.{at_in}
use Rattle.table_footprints.specs.Asked.{IsThere}
use Rattle.table_footprints.specs.Footprints.{AtName}
use Rattle.table_footprints.proofs.Finding.{name_found}
use Rattle.table_footprints.proofs.in_folder.find_in.Goals as goal

pub returns-then-len-place-clause-err : goal.returns-then-len-place-clause-err
returns-then-len-place-clause-err c =
    let above = c.args.place.now.path in
    let name = c.args.name.now in
    (above ++ name ∷ [], record { above = above; leads = c.requires.leads; whole = refl }, omega (arith, path_bytes-push above name, c.requires.room, c.len.ensures, c.if-len-place.true))

pub returns-clause-ok : goal.returns-clause-ok
returns-clause-ok c =
    let at = at_in c.args.tree.now in
    let folder = c.args.folder in
    let above = c.args.place.now.path in
    let name = c.args.name.now in
    let same : c.in_ok-copy.field-0 ≡ name = c.in_ok-copy.ensures in
    let whole : c.in_ok-path.path ≡ above ++ name ∷ [] = c.in_ok-path.ensures ∙ ap (λ (n : Name). above ++ n ∷ []) same in
    let short : path_bytes (above ++ name ∷ []) ≤ 4096 = omega (arith, path_bytes-push above name, c.requires.room, c.len.ensures, c.if-len-place.false) in
    record {
      path = record { above = above; leads = c.requires.leads; whole = whole };
      short = subst (λ (p : Names). path_bytes p ≤ 4096) (sym whole) short;
      node = subst (λ (n : Name). (m : ℕ) → (c.find-node.result ≡ Some m) ↔ IsThere at (AtName folder n) m) same
          (name_found at c.find-node.ensures.tree folder c.in_ok-copy.field-0 c.find-node.result c.find-node.ensures.none c.find-node.ensures.some);
    }
