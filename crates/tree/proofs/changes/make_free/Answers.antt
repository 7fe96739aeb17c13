use Rattle.std.proofs.Common.{refl, sym, ◌∙◌}
use Rattle.std.proofs.lemmas.Option.{none-some}
use Rattle.tree.specs.Stored.{slot_at}
use Rattle.tree.proofs.Listing.{lists_same}
use Rattle.tree.proofs.Moving.{IsFreed-cut, IsFreed-free}
use Rattle.tree.proofs.changes.make_free.Goals as goal

pub cut_leaves-requires-clause-named : goal.cut_leaves-requires-clause-named
cut_leaves-requires-clause-named c = (c.args.key.now.parent, c.args.key.now.name, c.requires.stored.indexed.sound c.args.key.now c.in-Some.other (sym c.in-Some.ensures))

pub returns-else-other-number-clause-free : goal.returns-else-other-number-clause-free
returns-else-other-number-clause-free c _ =
    let named = c.requires.stored.indexed.sound c.args.key.now c.in-Some.other (sym c.in-Some.ensures) in
    IsFreed-cut (slot_at c.args.store.now.nodes) c.requires.stored.tree c.args.number c.args.key.now.parent c.args.key.now.name c.requires.can (slot_at c.cut_leaves.new.store.nodes) c.in-Some.other c.if-other-number.false named c.cut_leaves.ensures.cuts

pub returns-in-None-clause-free : goal.returns-in-None-clause-free
returns-in-None-clause-free c _ =
    IsFreed-free (slot_at c.args.store.now.nodes) c.requires.stored.tree c.args.number c.args.key.now.parent c.args.key.now.name c.requires.can (λ n named. none-some n (c.in-None.ensures ∙ c.requires.stored.indexed.whole c.args.key.now n named))

pub returns-then-other-number-clause-lists : goal.returns-then-other-number-clause-lists
returns-then-other-number-clause-lists c = lists_same (slot_at c.args.store.now.nodes) (slot_at c.args.store.now.nodes) c.args.newly_cut.now.items refl

pub returns-in-None-clause-lists : goal.returns-in-None-clause-lists
returns-in-None-clause-lists c = lists_same (slot_at c.args.store.now.nodes) (slot_at c.args.store.now.nodes) c.args.newly_cut.now.items refl
