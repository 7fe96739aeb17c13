use Rattle.paths.specs.Prefixes.{Names}
use Rattle.disk_folder.proofs.AttributeEnds.{all_if, done_as, entry_done, entry_missing, entry_present, on_if, standing_present, stopped_present, used_stands}
use Rattle.disk_folder.proofs.StandLemmas.{stand_keeps_all}
use Rattle.disk_folder.proofs.attributes.sync.Goals as goal

pub returns-in-Some-clause-present : goal.returns-in-Some-clause-present
returns-in-Some-clause-present g c = λ all.
    let there = used_stands (g.D.Disk.tree c.args.disk.now) (g.D.Disk.stands c.args.disk.now) c.args.cache.now c.recall_used.new.cache c.in-Some.place c.args.path.now c.open.result.now all c.recall_used.ensures.keeps c.in-Some.ensures.found c.open.ensures in
    all_if c.done.result _ (standing_present (g.D.Disk.tree c.args.disk.now) (g.D.Disk.stands c.args.disk.now) c.args.path.now c.open.result.now (g.met.D.Disk.is_tree c.args.disk.now) there)

pub returns-in-Some-clause-synced : goal.returns-in-Some-clause-synced
returns-in-Some-clause-synced g c = λ all.
    let there = used_stands (g.D.Disk.tree c.args.disk.now) (g.D.Disk.stands c.args.disk.now) c.args.cache.now c.recall_used.new.cache c.in-Some.place c.args.path.now c.open.result.now all c.recall_used.ensures.keeps c.in-Some.ensures.found c.open.ensures in
    on_if c.done.result _ (done_as c.sync.result c.done.result _ c.done.ensures.ok c.done.ensures.err (c.sync.ensures c.args.path.now there.handle))

pub returns-in-Some-clause-stand : goal.returns-in-Some-clause-stand
returns-in-Some-clause-stand g c = λ all. stand_keeps_all (g.D.Disk.tree c.args.disk.now) (g.D.Disk.stands c.args.disk.now) c.args.cache.now c.recall_used.new.cache c.recall_used.ensures.keeps all

pub returns-in-Ok-clause-present : goal.returns-in-Ok-clause-present
returns-in-Ok-clause-present g c = λ all.
    let kept = stand_keeps_all (g.D.Disk.tree c.args.disk.now) (g.D.Disk.stands c.args.disk.now) c.args.cache.now c.recall_used.new.cache c.recall_used.ensures.keeps all in
    let it = c.in-Ok.ensures.ok kept in
    entry_present c.sync_in.result (g.D.Disk.tree c.args.disk.now) c.args.path.now it.up c.in-Ok.entry.name.now (g.met.D.Disk.is_tree c.args.disk.now) it.whole (c.sync_in.ensures.present it.up it.folder)

pub returns-in-Ok-clause-synced : goal.returns-in-Ok-clause-synced
returns-in-Ok-clause-synced g c = λ all.
    let kept = stand_keeps_all (g.D.Disk.tree c.args.disk.now) (g.D.Disk.stands c.args.disk.now) c.args.cache.now c.recall_used.new.cache c.recall_used.ensures.keeps all in
    let it = c.in-Ok.ensures.ok kept in
    entry_done c.sync_in.result (λ (q : Names). g.D.Disk.has_synced c.args.disk.now q) c.args.path.now it.up c.in-Ok.entry.name.now it.whole (c.sync_in.ensures.synced it.up it.folder)

pub returns-in-Ok-clause-err : goal.returns-in-Ok-clause-err
returns-in-Ok-clause-err g c = λ all.
    let kept = stand_keeps_all (g.D.Disk.tree c.args.disk.now) (g.D.Disk.stands c.args.disk.now) c.args.cache.now c.recall_used.new.cache c.recall_used.ensures.keeps all in
    let it = c.in-Ok.ensures.ok kept in
    entry_missing c.sync_in.result (g.D.Disk.tree c.args.disk.now) c.args.path.now it.up c.in-Ok.entry.name.now (g.met.D.Disk.is_tree c.args.disk.now) it.whole it.folder.folder (c.sync_in.ensures.err it.up it.folder)

pub returns-in-Ok-clause-stand : goal.returns-in-Ok-clause-stand
returns-in-Ok-clause-stand g c = λ all.
    let kept = stand_keeps_all (g.D.Disk.tree c.args.disk.now) (g.D.Disk.stands c.args.disk.now) c.args.cache.now c.recall_used.new.cache c.recall_used.ensures.keeps all in
    let it = c.in-Ok.ensures.ok kept in
    c.sync_in.ensures.stand it.up it.folder

pub returns-in-Err-clause-err : goal.returns-in-Err-clause-err
returns-in-Err-clause-err g c = λ all.
    let kept = stand_keeps_all (g.D.Disk.tree c.args.disk.now) (g.D.Disk.stands c.args.disk.now) c.args.cache.now c.recall_used.new.cache c.recall_used.ensures.keeps all in
    stopped_present (g.D.Disk.tree c.args.disk.now) c.args.path.now c.in-Err.trouble (c.in-Err.ensures.err kept)

pub returns-in-Err-clause-stand : goal.returns-in-Err-clause-stand
returns-in-Err-clause-stand g c = λ all. c.in-Err.ensures.stand (stand_keeps_all (g.D.Disk.tree c.args.disk.now) (g.D.Disk.stands c.args.disk.now) c.args.cache.now c.recall_used.new.cache c.recall_used.ensures.keeps all)
