use Rattle.table_steps.proofs.PeriodSums.{period_births, period_counts, period_totals}
use Rattle.table_steps.proofs.laws.sums_are_kept.Goals as goal

pub returns : goal.returns
returns c = record {
  counts = λ old new fewer before after closes n g. period_counts old new fewer before after closes n g;
  births = λ old new fewer closes n. period_births old new fewer n closes;
  totals = λ old new fewer closes. period_totals old new fewer closes;
}
