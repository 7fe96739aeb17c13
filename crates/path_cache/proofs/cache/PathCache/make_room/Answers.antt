use Rattle.std.proofs.Common.{◌≡◌, ℕ, ◌-◌, length, refl, ap, ◌∙◌, arith, min, length-take}
use Rattle.path_cache.specs.Entries.{found}
use Rattle.path_cache.proofs.Finding.{found-take}
use Rattle.path_cache.proofs.Changing.{IsPart, part_numbered}
use Rattle.path_cache.proofs.Leaving.{part_kept}
use Rattle.path_cache.proofs.cache.PathCache.make_room.Goals as goal

pub invariant_of-self : goal.invariant_of-self
invariant_of-self g c =
    let was = c.self.inside.entries.entries in
    let is : IsPart (found was) (found c.drop_least_used.new.entries.entries) = rw c.drop_least_used.ensures.left (λ m other. found-take was c.saturating_sub.result m other) in
    (part_numbered (found was) (found c.drop_least_used.new.entries.entries) c.self.inside.next is c.self.invariant.0, c.drop_least_used.ensures.cap ∙ c.self.invariant.1, omega (arith, ap length c.drop_least_used.ensures.left, length-take c.saturating_sub.result was, c.self.invariant.2))

pub returns-clause-kept : goal.returns-clause-kept
returns-clause-kept g c =
    let was = c.self.inside.entries.entries in
    let is : IsPart (found was) (found c.drop_least_used.new.entries.entries) = rw c.drop_least_used.ensures.left (λ m other. found-take was c.saturating_sub.result m other) in
    rw (← c.self.view_is) (part_kept _ _ refl is)

at_most : (a b : ℕ) → min a b ≡ min b a
at_most a b = omega arith

pub returns-clause-count : goal.returns-clause-count
returns-clause-count g c =
    let was = c.self.inside.entries.entries in
    rw (← c.self.view_is) (ap length c.drop_least_used.ensures.left
    ∙ (length-take c.saturating_sub.result was ∙ (ap (λ k. min k (length was)) c.saturating_sub.ensures ∙ at_most (c.self.inside.capacity - c.args.n) (length was))))
