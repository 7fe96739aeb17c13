use Rattle.std.proofs.Common.{arith}
use Rattle.table_steps.proofs.entries.enter.Goals as goal

pub returns-in-None-clause-more : goal.returns-in-None-clause-more
returns-in-None-clause-more c = record {
  born = 1;
  one = omega arith;
  none = λ n named. absurd (c.in-None.ensures.none n named);
  more_is = c.create.ensures.more;
}
