use Rattle.std.proofs.Common.{refl}
use Rattle.path_cache.proofs.CallerLemmas.{root_at}
use Rattle.disk_folder.proofs.CacheLemmas.{not_found}
use Rattle.disk_folder.proofs.open_cache.OpenCache.recall.Goals as goal

pub returns-in-None-clause-none : goal.returns-in-None-clause-none
returns-in-None-clause-none g c =
    not_found c.loop-name.self _ c.args.names.now c.loop-name.name-index c.name-item.result c.loop-name-test.true c.name-item.is c.child.ensures.kept (c.in-None.ensures.none _ c.loop-name.invariant.found)

pub loop-name-init : goal.loop-name-init
loop-name-init g c = record { keeps = record { kept = λ p. refl; places = λ place p at. at }; found = root_at c.args.self.now.cache }
