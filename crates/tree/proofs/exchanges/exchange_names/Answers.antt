use Rattle.std.proofs.Common.{◌≡◌, None, reverse, refl, sym, ◌∙◌, subst, arith}
use Rattle.std.proofs.lemmas.Option.{none-some}
use Rattle.collections.specs.Living.{found}
use Rattle.tree.specs.Keys.{same_key}
use Rattle.tree.specs.Moves.{Exchanges, moved_node}
use Rattle.tree.specs.Places.{Lookup, IsFree, IsNamed, IsTree}
use Rattle.tree.specs.Stored.{slot_at}
use Rattle.tree.proofs.Climbing.{climbs_alive}
use Rattle.tree.proofs.Exchanged.{Exchanges-first, Exchanges-none, Exchanges-same, Exchanges-second, Exchanges-swap, can_swap, movable, other_way}
use Rattle.tree.proofs.Exchanging.{IsTree-swapped}
use Rattle.tree.proofs.Moving.{IsTree-moved}
use Rattle.tree.proofs.Slots.{counts_changed, counts_swapped}
use Rattle.tree.proofs.exchanges.exchange_names.Goals as goal

pub swap_numbers-requires-clause-above : goal.swap_numbers-requires-clause-above
swap_numbers-requires-clause-above c =
    let can = c.requires.can in
    climbs_alive (slot_at c.args.store.now.nodes) c.requires.stored.tree.rooted (reverse can.above) c.args.source.parent can.leads

pub swap_numbers-requires-clause-new_above : goal.swap_numbers-requires-clause-new_above
swap_numbers-requires-clause-new_above c =
    let can = c.requires.can in
    climbs_alive (slot_at c.args.store.now.nodes) c.requires.stored.tree.rooted (reverse can.new_above) c.args.target.parent can.new_leads

pub returns-then-one-two-clause-exchanged : goal.returns-then-one-two-clause-exchanged
returns-then-one-two-clause-exchanged c =
    let at = slot_at c.args.store.now.nodes in
    let s = c.args.source in
    let t = c.args.target in
    let stored = c.requires.stored in
    let can = c.requires.can in
    let one = c.in-Some-Some.one in
    let two = c.in-Some-Some.two in
    let first : IsNamed at one s.parent s.name = stored.indexed.sound s one (sym c.find_in-at_source.ensures ∙ c.in-Some-Some.is-0) in
    let second : IsNamed at two t.parent t.name = stored.indexed.sound t two (sym c.find_in-at_target.ensures ∙ c.in-Some-Some.is-1) in
    let swap = can_swap at stored.tree s.parent s.name t.parent t.name can one two first second c.if-one-two.true in
    let wrote = c.swap_numbers.ensures.swapped first.0 second.0 first.1 second.1 in
    subst (λ (a : Lookup). Exchanges at a s.parent s.name t.parent t.name) (sym wrote) (Exchanges-swap at stored.tree s.parent s.name t.parent t.name can one two swap)

pub returns-then-one-two-clause-stored : goal.returns-then-one-two-clause-stored
returns-then-one-two-clause-stored c =
    let at = slot_at c.args.store.now.nodes in
    let s = c.args.source in
    let t = c.args.target in
    let stored = c.requires.stored in
    let can = c.requires.can in
    let one = c.in-Some-Some.one in
    let two = c.in-Some-Some.two in
    let first : IsNamed at one s.parent s.name = stored.indexed.sound s one (sym c.find_in-at_source.ensures ∙ c.in-Some-Some.is-0) in
    let second : IsNamed at two t.parent t.name = stored.indexed.sound t two (sym c.find_in-at_target.ensures ∙ c.in-Some-Some.is-1) in
    let swap = can_swap at stored.tree s.parent s.name t.parent t.name can one two first second c.if-one-two.true in
    let wrote = c.swap_numbers.ensures.swapped first.0 second.0 first.1 second.1 in
    record {
      tree = subst IsTree (sym wrote) (IsTree-swapped at stored.tree one s.parent s.name two t.parent t.name swap);
      indexed = c.swap_numbers.ensures.indexed;
      related = c.swap_numbers.ensures.related;
      counted = c.swap_numbers.ensures.counted;
    }

pub returns-then-one-two-clause-counts : goal.returns-then-one-two-clause-counts
returns-then-one-two-clause-counts c =
    let at = slot_at c.args.store.now.nodes in
    let s = c.args.source in
    let t = c.args.target in
    let stored = c.requires.stored in
    let can = c.requires.can in
    let one = c.in-Some-Some.one in
    let two = c.in-Some-Some.two in
    let first : IsNamed at one s.parent s.name = stored.indexed.sound s one (sym c.find_in-at_source.ensures ∙ c.in-Some-Some.is-0) in
    let second : IsNamed at two t.parent t.name = stored.indexed.sound t two (sym c.find_in-at_target.ensures ∙ c.in-Some-Some.is-1) in
    let swap = can_swap at stored.tree s.parent s.name t.parent t.name can one two first second c.if-one-two.true in
    let wrote = c.swap_numbers.ensures.swapped first.0 second.0 first.1 second.1 in
    counts_swapped c.args.store.now.nodes c.swap_numbers.new.store.nodes stored.tree.numbered (returns-then-one-two-clause-stored c).tree.numbered one two
    first.0 (moved_node first.0 t.parent t.name) second.0 (moved_node second.0 s.parent s.name) c.if-one-two.true first.1 second.1 refl refl wrote

pub returns-in-Some-Some-clause-exchanged : goal.returns-in-Some-Some-clause-exchanged
returns-in-Some-Some-clause-exchanged c =
    let at = slot_at c.args.store.now.nodes in
    let s = c.args.source in
    let t = c.args.target in
    let stored = c.requires.stored in
    let can = c.requires.can in
    let one = c.in-Some-Some.one in
    let two = c.in-Some-Some.two in
    let first : IsNamed at one s.parent s.name = stored.indexed.sound s one (sym c.find_in-at_source.ensures ∙ c.in-Some-Some.is-0) in
    let second : IsNamed at two t.parent t.name = stored.indexed.sound t two (sym c.find_in-at_target.ensures ∙ c.in-Some-Some.is-1) in
    Exchanges-same at stored.tree s.parent s.name t.parent t.name can one first (subst (λ k. IsNamed at k t.parent t.name) (sym c.if-one-two.false) second)

pub place_number-requires-clause-named : goal.place_number-requires-clause-named
place_number-requires-clause-named c =
    let at = slot_at c.args.store.now.nodes in
    let s = c.args.source in
    let t = c.args.target in
    let stored = c.requires.stored in
    let can = c.requires.can in
    let n = c.in-Some-None.one in
    let named : IsNamed at n s.parent s.name = stored.indexed.sound s n (sym c.find_in-at_source.ensures ∙ c.in-Some-None.is-0) in
    (s.parent, s.name, named)

pub place_number-requires-clause-free : goal.place_number-requires-clause-free
place_number-requires-clause-free c =
    let at = slot_at c.args.store.now.nodes in
    let s = c.args.source in
    let t = c.args.target in
    let stored = c.requires.stored in
    let can = c.requires.can in
    let none : found same_key c.args.store.now.index t ≡ None = sym c.find_in-at_target.ensures ∙ c.in-Some-None.is-1 in
    let free : IsFree at t.parent t.name = λ m h. none-some m (sym none ∙ stored.indexed.whole t m h) in
    free

pub place_number-requires-clause-above : goal.place_number-requires-clause-above
place_number-requires-clause-above c =
    let at = slot_at c.args.store.now.nodes in
    let s = c.args.source in
    let t = c.args.target in
    let stored = c.requires.stored in
    let can = c.requires.can in
    climbs_alive at stored.tree.rooted (reverse can.new_above) t.parent can.new_leads

pub returns-in-Some-None-clause-exchanged : goal.returns-in-Some-None-clause-exchanged
returns-in-Some-None-clause-exchanged c =
    let at = slot_at c.args.store.now.nodes in
    let s = c.args.source in
    let t = c.args.target in
    let stored = c.requires.stored in
    let can = c.requires.can in
    let n = c.in-Some-None.one in
    let named : IsNamed at n s.parent s.name = stored.indexed.sound s n (sym c.find_in-at_source.ensures ∙ c.in-Some-None.is-0) in
    let none : found same_key c.args.store.now.index t ≡ None = sym c.find_in-at_target.ensures ∙ c.in-Some-None.is-1 in
    let free : IsFree at t.parent t.name = λ m h. none-some m (sym none ∙ stored.indexed.whole t m h) in
    let wrote = c.place_number.ensures.moved named.0 named.1 in
    subst (λ (a : Lookup). Exchanges at a s.parent s.name t.parent t.name) (sym wrote) (Exchanges-first at stored.tree s.parent s.name t.parent t.name can n named free)

pub returns-in-Some-None-clause-stored : goal.returns-in-Some-None-clause-stored
returns-in-Some-None-clause-stored c =
    let at = slot_at c.args.store.now.nodes in
    let s = c.args.source in
    let t = c.args.target in
    let stored = c.requires.stored in
    let can = c.requires.can in
    let n = c.in-Some-None.one in
    let named : IsNamed at n s.parent s.name = stored.indexed.sound s n (sym c.find_in-at_source.ensures ∙ c.in-Some-None.is-0) in
    let none : found same_key c.args.store.now.index t ≡ None = sym c.find_in-at_target.ensures ∙ c.in-Some-None.is-1 in
    let free : IsFree at t.parent t.name = λ m h. none-some m (sym none ∙ stored.indexed.whole t m h) in
    let wrote = c.place_number.ensures.moved named.0 named.1 in
    record {
      tree = subst IsTree (sym wrote) (IsTree-moved at n t.parent t.name named.0 named.1 (movable at stored.tree s.parent s.name t.parent t.name can n named free));
      indexed = c.place_number.ensures.indexed;
      related = c.place_number.ensures.related;
      counted = c.place_number.ensures.counted;
    }

pub returns-in-Some-None-clause-counts : goal.returns-in-Some-None-clause-counts
returns-in-Some-None-clause-counts c =
    let at = slot_at c.args.store.now.nodes in
    let s = c.args.source in
    let t = c.args.target in
    let stored = c.requires.stored in
    let can = c.requires.can in
    let n = c.in-Some-None.one in
    let named : IsNamed at n s.parent s.name = stored.indexed.sound s n (sym c.find_in-at_source.ensures ∙ c.in-Some-None.is-0) in
    let none : found same_key c.args.store.now.index t ≡ None = sym c.find_in-at_target.ensures ∙ c.in-Some-None.is-1 in
    let free : IsFree at t.parent t.name = λ m h. none-some m (sym none ∙ stored.indexed.whole t m h) in
    let wrote = c.place_number.ensures.moved named.0 named.1 in
    let sum = counts_changed c.args.store.now.nodes c.place_number.new.store.nodes stored.tree.numbered (returns-in-Some-None-clause-stored c).tree.numbered n named.0 (moved_node named.0 t.parent t.name) named.1 wrote in
    omega (arith, sum)

pub place_number-requires-in-None-Some-clause-named : goal.place_number-requires-in-None-Some-clause-named
place_number-requires-in-None-Some-clause-named c =
    let at = slot_at c.args.store.now.nodes in
    let s = c.args.source in
    let t = c.args.target in
    let stored = c.requires.stored in
    let can = c.requires.can in
    let n = c.in-None-Some.two in
    let named : IsNamed at n t.parent t.name = stored.indexed.sound t n (sym c.find_in-at_target.ensures ∙ c.in-None-Some.is-1) in
    (t.parent, t.name, named)

pub place_number-requires-in-None-Some-clause-free : goal.place_number-requires-in-None-Some-clause-free
place_number-requires-in-None-Some-clause-free c =
    let at = slot_at c.args.store.now.nodes in
    let s = c.args.source in
    let t = c.args.target in
    let stored = c.requires.stored in
    let can = c.requires.can in
    let none : found same_key c.args.store.now.index s ≡ None = sym c.find_in-at_source.ensures ∙ c.in-None-Some.is-0 in
    let free : IsFree at s.parent s.name = λ m h. none-some m (sym none ∙ stored.indexed.whole s m h) in
    free

pub place_number-requires-in-None-Some-clause-above : goal.place_number-requires-in-None-Some-clause-above
place_number-requires-in-None-Some-clause-above c =
    let at = slot_at c.args.store.now.nodes in
    let s = c.args.source in
    let t = c.args.target in
    let stored = c.requires.stored in
    let can = c.requires.can in
    climbs_alive at stored.tree.rooted (reverse can.above) s.parent can.leads

pub returns-in-None-Some-clause-exchanged : goal.returns-in-None-Some-clause-exchanged
returns-in-None-Some-clause-exchanged c =
    let at = slot_at c.args.store.now.nodes in
    let s = c.args.source in
    let t = c.args.target in
    let stored = c.requires.stored in
    let can = c.requires.can in
    let n = c.in-None-Some.two in
    let named : IsNamed at n t.parent t.name = stored.indexed.sound t n (sym c.find_in-at_target.ensures ∙ c.in-None-Some.is-1) in
    let none : found same_key c.args.store.now.index s ≡ None = sym c.find_in-at_source.ensures ∙ c.in-None-Some.is-0 in
    let free : IsFree at s.parent s.name = λ m h. none-some m (sym none ∙ stored.indexed.whole s m h) in
    let wrote = c.place_number-in-None-Some.ensures.moved named.0 named.1 in
    subst (λ (a : Lookup). Exchanges at a s.parent s.name t.parent t.name) (sym wrote) (Exchanges-second at stored.tree s.parent s.name t.parent t.name can n named free)

pub returns-in-None-Some-clause-stored : goal.returns-in-None-Some-clause-stored
returns-in-None-Some-clause-stored c =
    let at = slot_at c.args.store.now.nodes in
    let s = c.args.source in
    let t = c.args.target in
    let stored = c.requires.stored in
    let can = c.requires.can in
    let n = c.in-None-Some.two in
    let named : IsNamed at n t.parent t.name = stored.indexed.sound t n (sym c.find_in-at_target.ensures ∙ c.in-None-Some.is-1) in
    let none : found same_key c.args.store.now.index s ≡ None = sym c.find_in-at_source.ensures ∙ c.in-None-Some.is-0 in
    let free : IsFree at s.parent s.name = λ m h. none-some m (sym none ∙ stored.indexed.whole s m h) in
    let wrote = c.place_number-in-None-Some.ensures.moved named.0 named.1 in
    record {
      tree = subst IsTree (sym wrote) (IsTree-moved at n s.parent s.name named.0 named.1 (movable at stored.tree t.parent t.name s.parent s.name (other_way at s.parent s.name t.parent t.name can) n named free));
      indexed = c.place_number-in-None-Some.ensures.indexed;
      related = c.place_number-in-None-Some.ensures.related;
      counted = c.place_number-in-None-Some.ensures.counted;
    }

pub returns-in-None-Some-clause-counts : goal.returns-in-None-Some-clause-counts
returns-in-None-Some-clause-counts c =
    let at = slot_at c.args.store.now.nodes in
    let s = c.args.source in
    let t = c.args.target in
    let stored = c.requires.stored in
    let can = c.requires.can in
    let n = c.in-None-Some.two in
    let named : IsNamed at n t.parent t.name = stored.indexed.sound t n (sym c.find_in-at_target.ensures ∙ c.in-None-Some.is-1) in
    let none : found same_key c.args.store.now.index s ≡ None = sym c.find_in-at_source.ensures ∙ c.in-None-Some.is-0 in
    let free : IsFree at s.parent s.name = λ m h. none-some m (sym none ∙ stored.indexed.whole s m h) in
    let wrote = c.place_number-in-None-Some.ensures.moved named.0 named.1 in
    let sum = counts_changed c.args.store.now.nodes c.place_number-in-None-Some.new.store.nodes stored.tree.numbered (returns-in-None-Some-clause-stored c).tree.numbered n named.0 (moved_node named.0 s.parent s.name) named.1 wrote in
    omega (arith, sum)

pub returns-clause-exchanged : goal.returns-clause-exchanged
returns-clause-exchanged c =
    let at = slot_at c.args.store.now.nodes in
    let s = c.args.source in
    let t = c.args.target in
    let stored = c.requires.stored in
    let can = c.requires.can in
    let none : found same_key c.args.store.now.index s ≡ None = sym c.find_in-at_source.ensures ∙ c.in-None-None.is-0 in
    let none' : found same_key c.args.store.now.index t ≡ None = sym c.find_in-at_target.ensures ∙ c.in-None-None.is-1 in
    Exchanges-none at stored.tree s.parent s.name t.parent t.name can (λ m h. none-some m (sym none ∙ stored.indexed.whole s m h)) (λ m h. none-some m (sym none' ∙ stored.indexed.whole t m h))
