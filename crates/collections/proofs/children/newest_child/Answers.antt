use Rattle.std.proofs.Common.{sym, ap, ◌∙◌}
use Rattle.collections.specs.declared.children.Kin.{Kin}
use Rattle.collections.specs.Links.{kin_at}
use Rattle.collections.proofs.Linking.{childless}
use Rattle.collections.proofs.children.newest_child.Goals as goal

pub returns-then-newest-eq-NONE-clause-none : goal.returns-then-newest-eq-NONE-clause-none
returns-then-newest-eq-NONE-clause-none g c parents law n stood =
    childless parents (kin_at c.args.nodes.now) law.rank law.linked c.args.parent (ap (λ (k : Kin). k.newest) (sym c.kin_in-newest.ensures) ∙ c.if-newest-eq-NONE.true) n stood
