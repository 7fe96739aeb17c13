use Rattle.laws.proofs.Reading.{reads}
use Rattle.laws.proofs.object_disk.one_name.OneNameDisk.read_at.Goals as goal

pub returns-clause-bytes : goal.returns-clause-bytes
returns-clause-bytes g c = λ p (free, led).
    reads (g.D.ObjectDisk.objects c.args.self.now.disk) p led.object c.args.offset c.read_at.result c.read_at.new.buffer led.stands (c.read_at.ensures.bytes led.object led.holds)
