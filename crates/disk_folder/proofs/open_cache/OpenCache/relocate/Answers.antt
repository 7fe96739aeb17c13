use Rattle.disk_folder.proofs.CacheLemmas.{held_own, held_place, relocated_source, relocated_target}
use Rattle.disk_folder.proofs.open_cache.OpenCache.relocate.Goals as goal

pub returns-in-Own : goal.returns-in-Own
returns-in-Own g c = λ up above here there apart.
    relocated_target c.args.self.now c.forget.new.self up c.args.source.now.name.now _ (c.forget.ensures above there) (held_own c.args.self.now c.args.source.now.folder _ up c.in-Own.is here)

pub returns-in-Own-folder : goal.returns-in-Own-folder
returns-in-Own-folder g c = λ up above here there apart.
    relocated_source c.args.self.now c.forget-in-Own-folder.new.self _ above c.args.target.now.name.now (c.forget-in-Own-folder.ensures up here) (held_own c.args.self.now c.args.target.now.folder _ above c.in-Own-folder.is there)

pub returns-in-Kept-folder : goal.returns-in-Kept-folder
returns-in-Kept-folder g c = λ up above here there apart.
    let from = held_place c.args.self.now c.args.source.now.folder c.in-Kept.from up c.in-Kept.is here in
    let to = held_place c.args.self.now c.args.target.now.folder c.in-Kept-folder.to above c.in-Kept-folder.is there in
    c.relocate.ensures.kept up above from to (record { not_above = apart.not_into; not_below = apart.not_over })
