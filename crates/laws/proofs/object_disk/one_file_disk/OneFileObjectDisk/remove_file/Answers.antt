use Rattle.std.proofs.Common.{◌≡◌, [], ◌∷◌, ◌++◌, sym, subst}
use Rattle.paths.specs.Prefixes.{Names}
use Rattle.laws.specs.declared.object_disk.one_file.FileHandle.{FileHandle}
use Rattle.laws.specs.Objects.{LeadsTo}
use Rattle.laws.specs.ObjectAnswers.{Removes}
use Rattle.laws.specs.FileNames.{objects_in, opens_in}
use Rattle.laws.proofs.FileChanges.{root_at}
use Rattle.laws.proofs.object_disk.one_file_disk.OneFileObjectDisk.remove_file.Goals as goal

pub returns-in-Root-clause-removed : goal.returns-in-Root-clause-removed
returns-in-Root-clause-removed c = λ up led.
    let bytes = c.args.self.now.bytes in
    let names = c.args.self.now.names.items in
    let objects = objects_in bytes names in
    let new = c.remove.new.self in
    let root : up ≡ [] = root_at bytes names up (subst (λ (handle : FileHandle). LeadsTo objects (opens_in names handle) up) c.in-Root.is led) in
    subst (λ (it : Names). Removes objects (opens_in names) (it ++ c.args.name.now ∷ []) c.remove.result (objects_in new.bytes new.names.items) (opens_in new.names.items)) (sym root) c.remove.ensures
