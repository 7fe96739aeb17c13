use Rattle.tree.specs.Places.{at_in}
use Rattle.table_steps.specs.Keeping.{kept_by}
use Rattle.table_steps.proofs.Reasons.{IsSwept-trans, IsSameRest-trans}
use Rattle.table_steps.proofs.sweep.sweep_pins.Goals as goal

pub loop-number-preserved : goal.loop-number-preserved
loop-number-preserved c = record {
  pruned = c.sweep.ensures.pruned;
  swept = IsSwept-trans (kept_by c.args.flights.now c.args.files.now) (at_in c.args.tree.now) (at_in c.loop-number.tree) (at_in c.sweep.new.tree) c.loop-number.invariant.swept c.sweep.ensures.swept;
  rest = IsSameRest-trans c.args.tree.now c.loop-number.tree c.sweep.new.tree c.loop-number.invariant.rest c.sweep.ensures.rest;
}
