use Rattle.backing.specs.Calls.{asked}
use Rattle.backing.specs.Entries.{tree_of}
use Rattle.backing.proofs.Ending.{soundly_answered, no_memory}
use Rattle.backing.proofs.perform.treat_soundly.Goals as goal

pub returns-in-Some-clause-treated : goal.returns-in-Some-clause-treated
returns-in-Some-clause-treated c = soundly_answered (tree_of c.args.entries.now.items) (tree_of c.perform-ended.new.entries.items) (asked c.args.call) c.perform-ended.result c.answered.result c.in-Some.answer c.perform-ended.ensures.ends c.answered.ensures c.in-Some.is

pub returns-in-None-clause-treated : goal.returns-in-None-clause-treated
returns-in-None-clause-treated c = no_memory (tree_of c.args.entries.now.items) (tree_of c.perform-ended.new.entries.items) (asked c.args.call) c.perform-ended.result c.answered.result c.failure.result c.perform-ended.ensures.ends c.answered.ensures c.in-None.is c.failure.ensures
