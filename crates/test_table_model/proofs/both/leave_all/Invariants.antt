use Rattle.std.proofs.Common.{length}
use Rattle.test_table_model.proofs.both.leave_all.Given as goal

abbrev pub decreases-loop-answered : goal.decreases-loop-answered
decreases-loop-answered l = length l.answers.items
