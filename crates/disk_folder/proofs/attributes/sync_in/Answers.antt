use Rattle.disk_folder.specs.Standing.{IsFolderAt}
use Rattle.disk_folder.proofs.AttributeEnds.{done_as}
use Rattle.disk_folder.proofs.StandLemmas.{held_stands}
use Rattle.disk_folder.proofs.attributes.sync_in.Goals as goal

pub returns-in-Ok-open_seen-clause-synced : goal.returns-in-Ok-open_seen-clause-synced
returns-in-Ok-open_seen-clause-synced g c = λ up it.
    let step = c.in-Ok-open_seen.ensures in
    let after : IsFolderAt (g.D.Disk.tree c.args.disk.now) (g.D.Disk.stands c.args.disk.now) c.look_at.new.cache c.args.entry.now.folder up = record { all = c.in-Ok.ensures.stand it.all; held_at = c.in-Ok.ensures.held up it.held_at; own = it.own; folder = it.folder } in
    let there = held_stands (g.D.Disk.tree c.args.disk.now) (g.D.Disk.stands c.args.disk.now) c.open_seen.new.cache c.in-Ok-open_seen.held _ c.open.result.now (step.stand up after) (step.held up after.held_at) (step.own up after) c.open.ensures in
    done_as c.sync.result c.done.result _ c.done.ensures.ok c.done.ensures.err (c.sync.ensures _ there.handle)
