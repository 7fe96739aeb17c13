use Rattle.std.proofs.Common.{ℕ, ◌≡◌, ◌+◌, ◌^◌, ◌<◌, ◌≤◌, rules, arith, sym, ap, ◌∙◌, subst}
use Rattle.tree.specs.Places.{Lookup, Nodes, at_in}
use Rattle.tree.specs.Stored.{slot_at}
use Rattle.tree.proofs.Slots.{seen_at, slot_of, next_fits, next_full, distinct_listed, listed_at}
use Rattle.tree.proofs.Tree.next_free.Goals as goal

pub returns-in-Some-clause-next : goal.returns-in-Some-clause-next
returns-in-Some-clause-next c =
    let e : c.in-Some.number ≡ c.self.inside.store.nodes.vacant_key + 1 = search rules in
    let fits : c.in-Some.number < 2 ^ 64 = search rules in
    next_fits c.self.inside.store.nodes c.in-Some.number e fits ∙ ap (λ (t : Nodes). t.next) c.self.view_is

pub returns-in-Some-clause-free : goal.returns-in-Some-clause-free
returns-in-Some-clause-free c =
    let s = c.self.inside.store.nodes in
    let same : slot_at s ≡ at_in c.args.self.now = sym (seen_at s c.self.invariant.stored.tree.numbered) ∙ ap at_in c.self.view_is in
    let e : c.in-Some.number ≡ s.vacant_key + 1 = search rules in
    ap (at_in c.args.self.now) (sym (returns-in-Some-clause-next c)) ∙ (ap (λ (at : Lookup). at c.in-Some.number) (sym same) ∙ (slot_of s c.in-Some.number s.vacant_key e ∙ search rules))

pub returns-in-Some-clause-positive : goal.returns-in-Some-clause-positive
returns-in-Some-clause-positive c =
    let e : c.in-Some.number ≡ c.self.inside.store.nodes.vacant_key + 1 = search rules in
    let P : ℕ → Type 0 = λ n. 0 < n in subst P (returns-in-Some-clause-next c) (omega (arith, e))

pub returns-in-None-clause-next : goal.returns-in-None-clause-next
returns-in-None-clause-next c =
    let s = c.self.inside.store.nodes in
    let full : 2 ^ 64 ≤ s.vacant_key + 1 = search rules in
    next_full s c.least_free.result full (distinct_listed s c.self.invariant.stored.tree.numbered) c.least_free.ensures ∙ ap (λ (t : Nodes). t.next) c.self.view_is

pub returns-in-None-clause-free : goal.returns-in-None-clause-free
returns-in-None-clause-free c =
    let s = c.self.inside.store.nodes in
    let same : slot_at s ≡ at_in c.args.self.now = sym (seen_at s c.self.invariant.stored.tree.numbered) ∙ ap at_in c.self.view_is in
    ap (at_in c.args.self.now) (sym (returns-in-None-clause-next c)) ∙ (ap (λ (at : Lookup). at c.least_free.result) (sym same) ∙ (ap (λ (at : Lookup). at c.least_free.result) (sym (listed_at s c.self.invariant.stored.tree.numbered)) ∙ c.least_free.ensures.free))

pub returns-in-None-clause-positive : goal.returns-in-None-clause-positive
returns-in-None-clause-positive c = let P : ℕ → Type 0 = λ n. 0 < n in subst P (returns-in-None-clause-next c) c.least_free.ensures.positive
