use Rattle.disk_folder.proofs.AttributeEnds.{done_as}
use Rattle.disk_folder.proofs.StandLemmas.{held_stands}
use Rattle.disk_folder.proofs.attributes.set_opened.Goals as goal

pub returns-in-Ok-clause-set : goal.returns-in-Ok-clause-set
returns-in-Ok-clause-set g c = λ up it.
    let there = held_stands (g.D.Disk.tree c.args.disk.now) (g.D.Disk.stands c.args.disk.now) c.open_seen.new.cache c.in-Ok.held _ c.open.result.now (c.in-Ok.ensures.stand up it) (c.in-Ok.ensures.held up it.held_at) (c.in-Ok.ensures.own up it) c.open.ensures in
    done_as c.set.result c.done.result _ c.done.ensures.ok c.done.ensures.err (c.set.ensures _ there.handle)

pub returns-in-Err-Failed-eq13-clause-set : goal.returns-in-Err-Failed-eq13-clause-set
returns-in-Err-Failed-eq13-clause-set g c = λ up it.
    c.set_by_name.ensures.set up (record { all = c.in-Err-Failed-eq13.ensures.stand up it; held_at = c.in-Err-Failed-eq13.ensures.folder up it.held_at; own = it.own; folder = it.folder })
