use Rattle.laws.proofs.Reading.{done_at}
use Rattle.laws.proofs.object_disk.one_name.OneNameDisk.sync.Goals as goal

pub returns : goal.returns
returns g c = λ p (free, led).
    let disk = c.args.self.now.disk in
    done_at (g.D.ObjectDisk.objects disk) p led.object (g.D.ObjectDisk.has_synced disk) c.sync.result led.stands (c.sync.ensures led.object led.holds)
