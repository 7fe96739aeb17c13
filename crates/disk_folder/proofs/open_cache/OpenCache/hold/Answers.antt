use Rattle.disk_folder.proofs.CacheLemmas.{forgets_none, keeps_forget}
use Rattle.disk_folder.proofs.open_cache.OpenCache.hold.Goals as goal

pub returns-clause-held : goal.returns-clause-held
returns-clause-held g c = λ up at. forgets_none c.args.self.now c.forget.new.self _ (c.forget.ensures up at)

pub returns-clause-keeps : goal.returns-clause-keeps
returns-clause-keeps g c = λ up at. keeps_forget c.args.self.now c.forget.new.self _ c.args.opened (c.forget.ensures up at)
