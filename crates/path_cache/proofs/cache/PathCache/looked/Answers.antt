use Rattle.std.proofs.Common.{refl}
use Rattle.path_cache.specs.Cache.{looked_at}
use Rattle.path_cache.proofs.cache.PathCache.looked.Goals as goal

pub returns-in-Root : goal.returns-in-Root
unfolding looked_at
returns-in-Root g c = rw (c.in-Root.is, ← c.self.view_is) refl

pub returns-in-Some : goal.returns-in-Some
unfolding looked_at
returns-in-Some g c = rw (c.in-Child.is, ← c.self.view_is, ← c.in-Some.ensures) refl

pub returns-in-None : goal.returns-in-None
unfolding looked_at
returns-in-None g c = rw (c.in-Child.is, ← c.self.view_is, ← c.in-None.ensures) refl
