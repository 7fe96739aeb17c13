use Rattle.laws.proofs.Exclusive.{acts_at_one_point}
use Rattle.laws.proofs.tree_order.acts_at_one_point.Goals as goal

pub returns : goal.returns
returns c = acts_at_one_point
