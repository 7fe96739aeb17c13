use Rattle.std.proofs.Common.{sym, subst}
use Rattle.tree.specs.Places.{IsTree}
use Rattle.tree.proofs.Slots.{seen_at}
use Rattle.tree.proofs.Tree.take_newly_cut.Goals as goal

pub returns-clause-tree : goal.returns-clause-tree
returns-clause-tree c = subst IsTree (sym (seen_at c.self.inside.store.nodes c.self.invariant.stored.tree.numbered)) c.self.invariant.stored.tree
