use Rattle.disk_folder.proofs.NameEnds.{source_ends}
use Rattle.disk_folder.proofs.linking.link_led.Goals as goal

pub returns-in-Err-clause-ends : goal.returns-in-Err-clause-ends
returns-in-Err-clause-ends g c = λ all down none. source_ends (g.D.Disk.tree c.args.disk.now) c.args.from.now c.args.to.now c.in-Err.trouble c.requires.below c.requires.below_too (c.in-Err.ensures.err all)
