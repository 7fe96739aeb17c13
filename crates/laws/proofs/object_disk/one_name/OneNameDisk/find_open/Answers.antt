use Rattle.std.proofs.Common.{[], ◌∷◌, ◌++◌}
use Rattle.laws.proofs.Reading.{finds_open}
use Rattle.laws.proofs.object_disk.one_name.OneNameDisk.find_open.Goals as goal

pub returns : goal.returns
returns g c = λ up (free, led).
    let disk = c.args.self.now.disk in
    finds_open c.args.self.now.linked (g.D.ObjectDisk.objects disk) (g.D.ObjectDisk.opens disk) free (up ++ c.args.name.now ∷ []) c.find_open.result (c.find_open.ensures up led)
