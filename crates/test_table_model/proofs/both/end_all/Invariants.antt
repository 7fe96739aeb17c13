use Rattle.std.proofs.Common.{length}
use Rattle.test_table_model.proofs.both.end_all.Given as goal

abbrev pub decreases-loop-ticket : goal.decreases-loop-ticket
decreases-loop-ticket g l = length l.tickets.items
