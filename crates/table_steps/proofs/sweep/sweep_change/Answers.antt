use Rattle.tree.specs.Places.{at_in}
use Rattle.table_steps.specs.Keeping.{kept_by}
use Rattle.table_steps.proofs.Reasons.{IsSwept-trans}
use Rattle.table_steps.proofs.sweep.sweep_change.Goals as goal

pub returns-in-Some-clause-swept : goal.returns-in-Some-clause-swept
returns-in-Some-clause-swept c =
    IsSwept-trans (kept_by c.args.flights.now c.args.files.now) (at_in c.args.tree.now) (at_in c.sweep_cut.new.tree) (at_in c.sweep.new.tree) c.sweep_cut.ensures.swept c.sweep.ensures.swept
