use Rattle.std.proofs.Common.{[], ◌∷◌, ◌++◌}
use Rattle.laws.proofs.Reading.{opens_file}
use Rattle.laws.proofs.object_disk.one_name.OneNameDisk.open_file.Goals as goal

pub returns : goal.returns
returns g c = λ up (free, led).
    let disk = c.args.self.now.disk in
    opens_file c.args.self.now.linked (g.D.ObjectDisk.objects disk) (g.D.ObjectDisk.opens disk) free (up ++ c.args.name.now ∷ []) c.open_file.result (c.open_file.ensures up led)
