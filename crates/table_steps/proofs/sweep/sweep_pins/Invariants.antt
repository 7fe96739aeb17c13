use Rattle.std.proofs.Common.{length}
use Rattle.tree.specs.Places.{at_in}
use Rattle.table_steps.specs.Keeping.{kept_by}
use Rattle.table_steps.specs.Swept.{IsSwept}
use Rattle.table_steps.specs.Sweeping.{IsPruned, IsSameRest}
use Rattle.table_steps.proofs.sweep.sweep_pins.Given as goal

abbrev pub invariant-loop-number : goal.invariant-loop-number
invariant-loop-number l = record {
  pruned : IsPruned (at_in l.tree) (kept_by l.flights l.files) l.left;
  swept : IsSwept (kept_by l.flights l.files) (at_in l.fn.tree) (at_in l.tree);
  rest : IsSameRest l.fn.tree l.tree;
}

abbrev pub decreases-loop-number : goal.decreases-loop-number
decreases-loop-number l = length l.left
