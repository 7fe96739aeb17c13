-- What a caller has pending, as contracts see it.
use Rattle.std.specs.Prelude.{List}
use Rattle.table_steps.specs.Answers.{Answer}
use Rattle.laws.specs.declared.table_runs.pending.Started.{Started}

-- the tickets that were not finished yet, each with its want, and the answers that were not settled yet
pub record Outstanding : Type 0 where
  pub tickets : List Started
  pub answers : List Answer
