use Rattle.std.proofs.Common.{length}
use Rattle.tree.specs.Places.{at_in, IsTree}
use Rattle.table_steps.specs.Keeping.{kept_by}
use Rattle.table_steps.specs.Swept.{IsSwept}
use Rattle.table_steps.specs.Sweeping.{HaveReasonsAside, IsSameRest}
use Rattle.table_steps.proofs.sweep.sweep_cut.Given as goal

abbrev pub invariant-loop-number : goal.invariant-loop-number
invariant-loop-number l = record {
  tree : IsTree (at_in l.tree);
  aside : HaveReasonsAside (at_in l.tree) (kept_by l.flights l.files) l.but l.tree.newly_cut;
  swept : IsSwept (kept_by l.flights l.files) (at_in l.fn.tree) (at_in l.tree);
  rest : IsSameRest l.fn.tree l.tree;
}

abbrev pub decreases-loop-number : goal.decreases-loop-number
decreases-loop-number l = length l.tree.newly_cut
