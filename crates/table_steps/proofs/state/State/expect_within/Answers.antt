use Rattle.table_steps.proofs.Tallying.{tallied}
use Rattle.table_steps.proofs.state.State.expect_within.Goals as goal

pub returns-then-free_nodes-promise-clause-tally : goal.returns-then-free_nodes-promise-clause-tally
returns-then-free_nodes-promise-clause-tally c = tallied c.args.self.now c.len.ensures.census c.promised-promised.ensures.tallied c.requires.provided c.requires.filed

pub returns-then-not-has_postings-clause-tally : goal.returns-then-not-has_postings-clause-tally
returns-then-not-has_postings-clause-tally c = tallied c.args.self.now c.len.ensures.census c.promised-promised.ensures.tallied c.requires.provided c.requires.filed

pub returns-then-self-len-clause-tally : goal.returns-then-self-len-clause-tally
returns-then-self-len-clause-tally c = tallied c.args.self.now c.len.ensures.census c.promised-promised.ensures.tallied c.requires.provided c.requires.filed

pub returns-clause-tally : goal.returns-clause-tally
returns-clause-tally c = tallied c.args.self.now c.len.ensures.census c.promised-promised.ensures.tallied c.requires.provided c.requires.filed

pub returns-then-not-has_handles-clause-tally : goal.returns-then-not-has_handles-clause-tally
returns-then-not-has_handles-clause-tally c = tallied c.args.self.now c.len.ensures.census c.promised-promised.ensures.tallied c.requires.provided c.requires.filed

pub returns-then-not-has_entries-clause-tally : goal.returns-then-not-has_entries-clause-tally
returns-then-not-has_entries-clause-tally c = tallied c.args.self.now c.len.ensures.census c.promised-promised.ensures.tallied c.requires.provided c.requires.filed
