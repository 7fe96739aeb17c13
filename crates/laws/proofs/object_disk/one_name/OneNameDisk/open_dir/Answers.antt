use Rattle.std.proofs.Common.{[], ◌∷◌, ◌++◌}
use Rattle.laws.proofs.Reading.{opens_dir}
use Rattle.laws.proofs.object_disk.one_name.OneNameDisk.open_dir.Goals as goal

pub returns : goal.returns
returns g c = λ up (free, led).
    let disk = c.args.self.now.disk in
    opens_dir c.args.self.now.linked (g.D.ObjectDisk.objects disk) (g.D.ObjectDisk.opens disk) free (up ++ c.args.name.now ∷ []) c.open_dir.result (c.open_dir.ensures up led)
