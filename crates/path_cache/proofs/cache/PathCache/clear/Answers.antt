use Rattle.std.proofs.Common.{refl, ap, ◌∙◌, length, arith}
use Rattle.path_cache.specs.Entries.{found}
use Rattle.path_cache.proofs.Leaving.{found-empty, none_numbered, alone_kept}
use Rattle.path_cache.proofs.cache.PathCache.clear.Goals as goal

pub invariant_of-self : goal.invariant_of-self
invariant_of-self g c =
    let none = found-empty c.clear.new.self.entries (ap (λ e. e.entries) c.clear.ensures) in
    (none_numbered (found c.clear.new.self.entries) c.self.inside.next none c.self.invariant.0.begun, ap (λ e. e.cap) c.clear.ensures ∙ c.self.invariant.1, omega (arith, ap (λ e. length e.entries) c.clear.ensures))

pub returns-clause-kept : goal.returns-clause-kept
returns-clause-kept g c = rw (← c.self.view_is) (alone_kept _ _ refl (found-empty c.clear.new.self.entries (ap (λ e. e.entries) c.clear.ensures)))
