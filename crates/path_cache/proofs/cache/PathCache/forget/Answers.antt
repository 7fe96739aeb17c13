use Rattle.std.proofs.Common.{refl}
use Rattle.path_cache.specs.Places.{number_of}
use Rattle.path_cache.proofs.Keeping.{forgot_kept, forgot_placed, taken_at}
use Rattle.path_cache.proofs.cache.PathCache.forget.Goals as goal

pub returns-clause-kept : goal.returns-clause-kept
returns-clause-kept g c up =
    let finds = taken_at c.self.inside.entries.entries c.take_out.new.entries.entries c.args.name.now c.number.result (number_of c.args.place) c.number.ensures c.take_out.ensures.found in
    rw (← c.self.view_is) (λ is. forgot_kept _ _ c.self.invariant.0 refl c.args.place up is c.args.name.now finds)

pub returns-clause-places : goal.returns-clause-places
returns-clause-places g c up =
    let finds = taken_at c.self.inside.entries.entries c.take_out.new.entries.entries c.args.name.now c.number.result (number_of c.args.place) c.number.ensures c.take_out.ensures.found in
    rw (← c.self.view_is) (λ is. forgot_placed _ _ c.self.invariant.0 refl c.args.place up is c.args.name.now finds)
