use Rattle.table_steps.proofs.Attesting.{kept_lawful}
use Rattle.table_steps.proofs.state.State.attest.Goals as goal

pub returns : goal.returns
returns c = kept_lawful c.args.self.now c.len-nodes.ensures.census c.promised-promised.ensures.tallied c.requires.kept c.requires.undisturbed
