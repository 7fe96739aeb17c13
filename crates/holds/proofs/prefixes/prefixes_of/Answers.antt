use Rattle.std.proofs.Common.{List, ◌++◌, sym, ap, ◌∙◌, subst}
use Rattle.paths.specs.Prefixes.{Names, prefixes}
use Rattle.holds.specs.Conflicts.{ArePrefixes}
use Rattle.holds.proofs.Prefixing.{prefixes_are}
use Rattle.holds.proofs.prefixes.prefixes_of.Goals as goal

pub returns-clause-set : goal.returns-clause-set
returns-clause-set c =
    let path : Names = c.args.path.now in
    let whole = c.in_ok-push_prefixes.ensures ∙ ap (λ (ps : List Names). ps ++ prefixes path) c.new-prefixes.ensures in
    subst (λ (ps : List Names). ArePrefixes ps path) (sym whole) (prefixes_are path)
