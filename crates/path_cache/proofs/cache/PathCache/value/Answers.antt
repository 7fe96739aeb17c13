use Rattle.std.proofs.Common.{refl, sym, ap}
use Rattle.std.proofs.lemmas.Bool.{false≢true}
use Rattle.std.specs.Option.{option_map}
use Rattle.path_cache.specs.Cache.{value_at}
use Rattle.path_cache.proofs.cache.PathCache.value.Goals as goal

pub unreachable-requires : goal.unreachable-requires
unfolding value_at
unreachable-requires g c = false≢true (rw (c.in-Child.is, ← c.self.view_is, ← c.in-None.ensures) at c.requires)

pub returns-in-Root : goal.returns-in-Root
unfolding value_at
returns-in-Root g c = rw (c.in-Root.is, ← c.self.view_is) refl

pub returns-in-Some : goal.returns-in-Some
unfolding value_at
returns-in-Some g c = rw (c.in-Child.is, ← c.self.view_is) (ap (option_map (λ e. e.value)) (sym c.in-Some.ensures))
