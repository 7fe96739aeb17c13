use Rattle.std.proofs.Common.{sym, ap, subst}
use Rattle.tree.specs.Places.{Lookup, at_in, IsFree}
use Rattle.test_table_model.proofs.tree_rows.plant.Goals as goal

pub birth-requires-clause-free : goal.birth-requires-clause-free
birth-requires-clause-free c =
    subst (λ (at : Lookup). IsFree at c.args.parent c.in_ok-from_text.field-0) (sym (ap at_in c.reserve.ensures.rest)) c.in-None.ensures.none
