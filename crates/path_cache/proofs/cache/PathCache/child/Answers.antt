use Rattle.std.proofs.Common.{refl}
use Rattle.path_cache.proofs.Caching.{all_kept, all_placed, child_there, none_there}
use Rattle.path_cache.proofs.cache.PathCache.child.Goals as goal

pub returns-in_default-clause-kept : goal.returns-in_default-clause-kept
returns-in_default-clause-kept g c = rw (← c.self.view_is) (all_kept _ _ c.use_entry.ensures.same refl)

pub returns-in_default-clause-places : goal.returns-in_default-clause-places
returns-in_default-clause-places g c = rw (← c.self.view_is) (all_placed _ _ c.use_entry.ensures.same refl)

pub returns-in_default-clause-none : goal.returns-in_default-clause-none
returns-in_default-clause-none g c up =
    rw (← c.self.view_is) (none_there _ c.args.place up c.args.name.now c.number-parent.result c.number-parent.ensures c.in_default.ensures.number)

pub returns-clause-kept : goal.returns-clause-kept
returns-clause-kept g c = rw (← c.self.view_is) (all_kept _ _ c.use_entry.ensures.same refl)

pub returns-clause-places : goal.returns-clause-places
returns-clause-places g c = rw (← c.self.view_is) (all_placed _ _ c.use_entry.ensures.same refl)

pub returns-clause-some : goal.returns-clause-some
returns-clause-some g c up =
    rw (← c.self.view_is) (child_there _ _ c.args.place up c.args.name c.number-parent.result c.in-Some.number c.number-parent.ensures c.in-Some.ensures.number c.use_entry.ensures.same refl)
