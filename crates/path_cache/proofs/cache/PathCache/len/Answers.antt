use Rattle.path_cache.proofs.cache.PathCache.len.Goals as goal

pub returns : goal.returns
returns g c = rw (← c.self.view_is) (record { len = c.len.ensures.len; bounded = c.self.invariant.2 })
