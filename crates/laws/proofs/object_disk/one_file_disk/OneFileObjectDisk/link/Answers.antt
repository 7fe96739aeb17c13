use Rattle.std.proofs.Common.{◌≡◌, [], ◌∷◌, ◌++◌, sym, subst}
use Rattle.paths.specs.Prefixes.{Names}
use Rattle.laws.specs.declared.object_disk.one_file.FileHandle.{FileHandle}
use Rattle.laws.specs.Objects.{LeadsTo}
use Rattle.laws.specs.ObjectAnswers.{Links}
use Rattle.laws.specs.FileNames.{objects_in, opens_in}
use Rattle.laws.proofs.FileChanges.{root_at}
use Rattle.laws.proofs.object_disk.one_file_disk.OneFileObjectDisk.link.Goals as goal

pub returns-in-Root-Root-clause-linked : goal.returns-in-Root-Root-clause-linked
returns-in-Root-Root-clause-linked c = λ up up' led led'.
    let bytes = c.args.self.now.bytes in
    let names = c.args.self.now.names.items in
    let objects = objects_in bytes names in
    let new = c.add_name.new.self in
    let root : up ≡ [] = root_at bytes names up (subst (λ (handle : FileHandle). LeadsTo objects (opens_in names handle) up) c.in-Root-Root.is-0 led) in
    let root' : up' ≡ [] = root_at bytes names up' (subst (λ (handle : FileHandle). LeadsTo objects (opens_in names handle) up') c.in-Root-Root.is-1 led') in
    subst (λ (it : Names). Links objects (opens_in names) (it ++ c.args.from.now ∷ []) (up' ++ c.args.to.now ∷ []) c.add_name.result (objects_in new.bytes new.names.items) (opens_in new.names.items)) (sym root)
    (subst (λ (it : Names). Links objects (opens_in names) (c.args.from.now ∷ []) (it ++ c.args.to.now ∷ []) c.add_name.result (objects_in new.bytes new.names.items) (opens_in new.names.items)) (sym root') c.add_name.ensures)
