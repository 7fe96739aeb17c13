use Rattle.std.proofs.Common.{ap, arith, length}
use Rattle.path_cache.specs.Entries.{found}
use Rattle.path_cache.proofs.Leaving.{found-empty, none_numbered, none_kept}
use Rattle.path_cache.proofs.cache.PathCache.new.Goals as goal

pub invariant_of-result : goal.invariant_of-result
invariant_of-result g c =
    let none = found-empty c.in_ok-entries.entries.entries (ap (λ e. e.entries) c.in_ok-entries.ensures) in
    (none_numbered (found c.in_ok-entries.entries.entries) 1 none (omega arith), ap (λ e. e.cap) c.in_ok-entries.ensures, omega (arith, ap (λ e. length e.entries) c.in_ok-entries.ensures))

pub returns-clause-kept : goal.returns-clause-kept
returns-clause-kept g c = none_kept _ (found-empty c.in_ok-entries.entries.entries (ap (λ e. e.entries) c.in_ok-entries.ensures))
