use Rattle.disk_folder.proofs.ListLemmas.{named_pushed}
use Rattle.disk_folder.proofs.listing.look_all.Goals as goal

pub loop-name-preserved : goal.loop-name-preserved
loop-name-preserved g c = record {
  seen = λ p there lists. named_pushed (g.D.Disk.tree c.args.disk.now) p c.args.names.now c.loop-name.name-index c.loop-name.all.items _ c.name-item.result c.in-Ok.seen c.in_ok-add-in-Ok.ensures.ok lists (c.loop-name.invariant.seen p there lists) c.loop-name-test.true c.name-item.is (c.in-Ok.ensures.ok p there);
}
