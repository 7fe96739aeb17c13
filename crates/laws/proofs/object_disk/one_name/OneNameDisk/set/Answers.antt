use Rattle.laws.proofs.Reading.{done_at}
use Rattle.laws.proofs.object_disk.one_name.OneNameDisk.set.Goals as goal

pub returns : goal.returns
returns g c = λ p (free, led).
    let disk = c.args.self.now.disk in
    done_at (g.D.ObjectDisk.objects disk) p led.object (λ object. g.D.ObjectDisk.has_set disk object c.args.change) c.set.result led.stands (c.set.ensures led.object led.holds)
