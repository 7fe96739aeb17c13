use Rattle.std.proofs.Common.{refl, sym, ◌∙◌, ◌+◌}
use Rattle.table_files.proofs.Counting.{another_opened, first_opened}
use Rattle.table_files.proofs.counts.raise.Goals as goal

pub returns-in-Some-clause-total : goal.returns-in-Some-clause-total
returns-in-Some-clause-total c = another_opened c.args.counts.now.by_number c.set.new.map c.args.number (c.in-Some.count + 1) c.set.ensures.set c.in-Some.count (sym c.value_of.ensures ∙ c.in-Some.is) refl c.set.ensures.live c.args.counts.now.nodes

pub returns-in-None-clause-total : goal.returns-in-None-clause-total
returns-in-None-clause-total c = first_opened c.args.counts.now.by_number c.put.new.map c.args.number 1 c.put.ensures.put refl (sym c.value_of.ensures ∙ c.in-None.is) c.put.ensures.live c.args.counts.now.nodes
