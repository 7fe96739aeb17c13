use Rattle.backing.proofs.Lawful.{some_item}
use Rattle.disk_folder.proofs.NameEnds.{source_ends, target_stopped}
use Rattle.disk_folder.proofs.linking.why_unled.Goals as goal

pub returns-in-Ok-clause-ends : goal.returns-in-Ok-clause-ends
returns-in-Ok-clause-ends g c = λ all stopped.
    let at = g.D.Disk.tree c.args.disk.now in
    let seen = c.in-Ok.ensures.ok all in
    target_stopped at c.args.from.now c.args.to.now c.args.trouble (g.met.D.Disk.is_tree c.args.disk.now) c.requires.below c.requires.below_too (some_item (at c.args.from.now) seen.item seen.stands) stopped

pub returns-in-Err-clause-ends : goal.returns-in-Err-clause-ends
returns-in-Err-clause-ends g c = λ all stopped. source_ends (g.D.Disk.tree c.args.disk.now) c.args.from.now c.args.to.now c.in-Err.first c.requires.below c.requires.below_too (c.in-Err.ensures.err all)
