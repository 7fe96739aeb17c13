use Rattle.std.proofs.Common.{◌∷◌}
use Rattle.tree.specs.Places.{at_in}
use Rattle.table_steps.specs.Keeping.{kept_by}
use Rattle.table_steps.specs.Swept.{IsSwept}
use Rattle.table_steps.specs.Sweeping.{IsPruned, IsSameRest}
use Rattle.table_steps.proofs.sweep.sweep.Given as goal

abbrev pub invariant-loop-parent : goal.invariant-loop-parent
invariant-loop-parent l = record {
  pruned : IsPruned (at_in l.tree) (kept_by l.flights l.files) (l.number ∷ l.pins);
  swept : IsSwept (kept_by l.flights l.files) (at_in l.fn.tree) (at_in l.tree);
  rest : IsSameRest l.fn.tree l.tree;
}

abbrev pub decreases-loop-parent : goal.decreases-loop-parent
decreases-loop-parent l = l.tree.living
