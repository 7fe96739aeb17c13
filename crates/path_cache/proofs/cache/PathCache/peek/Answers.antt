use Rattle.std.proofs.Common.{refl, sym, ap}
use Rattle.std.specs.Option.{option_map}
use Rattle.path_cache.specs.Entries.{found, kept_of}
use Rattle.path_cache.specs.Cache.{looked_at, value_at}
use Rattle.path_cache.proofs.Caching.{child_there, none_there}
use Rattle.path_cache.proofs.cache.PathCache.peek.Goals as goal

pub returns-in_default-clause-none : goal.returns-in_default-clause-none
unfolding found
returns-in_default-clause-none g c up =
    rw (← c.self.view_is) (none_there _ c.args.place up c.args.name.now c.number-parent.result c.number-parent.ensures (ap (λ o. option_map (λ k. k.number) (option_map kept_of o)) c.in_default.ensures))

pub returns-clause-some : goal.returns-clause-some
unfolding found
returns-clause-some g c up =
    rw (← c.self.view_is) (child_there _ _ c.args.place up c.args.name c.number-parent.result c.in-Some.entry.now.number c.number-parent.ensures (ap (λ o. option_map (λ k. k.number) (option_map kept_of o)) c.in-Some.ensures) refl refl)

pub returns-clause-value : goal.returns-clause-value
unfolding value_at
returns-clause-value g c = rw (← c.self.view_is) (ap (option_map (λ e. e.value)) (sym c.in-Some.ensures))

pub returns-clause-looked : goal.returns-clause-looked
unfolding looked_at
returns-clause-looked g c = rw (← c.self.view_is) (ap (option_map (λ e. e.looked)) (sym c.in-Some.ensures))
