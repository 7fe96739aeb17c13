use Rattle.std.proofs.Common.{◌≡◌, sym, ap, ◌∙◌, subst}
use Rattle.tree.specs.Places.{Lookup, Nodes, at_in, IsTree}
use Rattle.tree.specs.Stored.{slot_at}
use Rattle.tree.specs.Moves.{CanExchange, Exchanges}
use Rattle.tree.proofs.Slots.{seen_at}
use Rattle.tree.proofs.Counting.{exchanged_is}
use Rattle.tree.proofs.Tree.exchange.Goals as goal

pub exchange_names-requires-clause-can : goal.exchange_names-requires-clause-can
exchange_names-requires-clause-can c =
    let same : slot_at c.self.inside.store.nodes ≡ at_in c.args.self.now = sym (seen_at c.self.inside.store.nodes c.self.invariant.stored.tree.numbered) ∙ ap at_in c.self.view_is in
    subst (λ (at : Lookup). CanExchange at c.args.source.parent c.args.source.name c.args.target.parent c.args.target.name) (sym same) c.requires.can

pub returns-clause-exchanges : goal.returns-clause-exchanges
returns-clause-exchanges c =
    let same : slot_at c.self.inside.store.nodes ≡ at_in c.args.self.now = sym (seen_at c.self.inside.store.nodes c.self.invariant.stored.tree.numbered) ∙ ap at_in c.self.view_is in
    let s = c.args.source in
    let t = c.args.target in
    let was = subst (λ (at : Lookup). Exchanges at (slot_at c.exchange_names.new.store.nodes) s.parent s.name t.parent t.name) same c.exchange_names.ensures.exchanged in
    record {
      exchanges = subst (λ (at : Lookup). Exchanges (at_in c.args.self.now) at s.parent s.name t.parent t.name) (sym (seen_at c.exchange_names.new.store.nodes c.exchange_names.ensures.stored.tree.numbered)) was;
      rest = exchanged_is c.args.self.now _
          (c.exchange_names.ensures.len ∙ ap (λ (t : Nodes). t.living) c.self.view_is)
          (c.exchange_names.ensures.counts ∙ ap (λ (t : Nodes). t.counts) c.self.view_is)
          (ap (λ (t : Nodes). t.limit) c.self.view_is)
          (ap (λ (t : Nodes). t.room) c.self.view_is)
          (ap (λ (t : Nodes). t.newly_cut) c.self.view_is);
    }

pub returns-clause-tree : goal.returns-clause-tree
returns-clause-tree c = subst IsTree (sym (seen_at c.exchange_names.new.store.nodes c.exchange_names.ensures.stored.tree.numbered)) c.exchange_names.ensures.stored.tree
