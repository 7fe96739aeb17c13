use Rattle.std.proofs.Common.{sym, ap}
use Rattle.std.specs.Option.{option_map}
use Rattle.path_cache.specs.Entries.{kept_of, found}
use Rattle.path_cache.proofs.entries.use_entry.Goals as goal

pub returns-in-Some-clause-number : goal.returns-in-Some-clause-number
unfolding found
returns-in-Some-clause-number g c = sym (ap (λ o. option_map (λ k. k.number) (option_map kept_of o)) c.in-Some.ensures)
