use Rattle.std.proofs.Common.{refl, ◌∙◌}
use Rattle.path_cache.proofs.Caching.{all_kept, all_placed, root_looked, child_looked, child_was}
use Rattle.path_cache.proofs.cache.PathCache.touch.Goals as goal

pub returns-in-Root-clause-kept : goal.returns-in-Root-clause-kept
returns-in-Root-clause-kept g c = rw (← c.self.view_is) (all_kept _ _ refl refl)

pub returns-in-Root-clause-places : goal.returns-in-Root-clause-places
returns-in-Root-clause-places g c = rw (← c.self.view_is) (all_placed _ _ refl refl)

pub returns-in-Root-clause-looked : goal.returns-in-Root-clause-looked
returns-in-Root-clause-looked g c there = rw c.in-Root.is (root_looked _)

pub returns-in-Child-clause-kept : goal.returns-in-Child-clause-kept
returns-in-Child-clause-kept g c = rw (← c.self.view_is) (all_kept _ _ c.set_looked.ensures.same refl)

pub returns-in-Child-clause-places : goal.returns-in-Child-clause-places
returns-in-Child-clause-places g c = rw (← c.self.view_is) (all_placed _ _ c.set_looked.ensures.same refl)

pub returns-in-Child-clause-looked : goal.returns-in-Child-clause-looked
returns-in-Child-clause-looked g c = rw (c.in-Child.is, ← c.self.view_is) (λ there. child_looked _ _ _ _ ∙ c.set_looked.ensures.looked (child_was _ _ _ _ there))
