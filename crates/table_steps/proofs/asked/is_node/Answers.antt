use Rattle.table_steps.proofs.asked.is_node.Goals as goal

pub returns-in-Node : goal.returns-in-Node
returns-in-Node c yes' = (c.in-Node.number, c.in-Node.handle, c.in-Node.is)
