use Rattle.table_steps.proofs.Recording.{answers_recorded}
use Rattle.table_steps.proofs.laws.answers_are_recorded.Goals as goal

pub returns : goal.returns
returns c = answers_recorded
