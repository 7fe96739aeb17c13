use Rattle.std.proofs.Common.{◌≡◌, [], ◌∷◌, ◌++◌, sym, subst}
use Rattle.paths.specs.Prefixes.{Names}
use Rattle.laws.specs.declared.object_disk.one_file.FileHandle.{FileHandle}
use Rattle.laws.specs.Objects.{LeadsTo}
use Rattle.laws.specs.ObjectAnswers.{AreNested, Renames}
use Rattle.laws.specs.FileNames.{objects_in, opens_in}
use Rattle.laws.proofs.FileChanges.{nested_names, root_at}
use Rattle.laws.proofs.object_disk.one_file_disk.OneFileObjectDisk.rename.Goals as goal

pub returns-in-Root-Root-clause-renamed : goal.returns-in-Root-Root-clause-renamed
returns-in-Root-Root-clause-renamed c = λ up up' led led' apart.
    let bytes = c.args.self.now.bytes in
    let names = c.args.self.now.names.items in
    let objects = objects_in bytes names in
    let new = c.move_name.new.self in
    let root : up ≡ [] = root_at bytes names up (subst (λ (handle : FileHandle). LeadsTo objects (opens_in names handle) up) c.in-Root-Root.is-0 led) in
    let root' : up' ≡ [] = root_at bytes names up' (subst (λ (handle : FileHandle). LeadsTo objects (opens_in names handle) up') c.in-Root-Root.is-1 led') in
    subst (λ (it : Names). Renames objects (opens_in names) (it ++ c.args.from.now ∷ []) (up' ++ c.args.to.now ∷ []) c.move_name.result (objects_in new.bytes new.names.items) (opens_in new.names.items)) (sym root)
    (subst (λ (it : Names). Renames objects (opens_in names) (c.args.from.now ∷ []) (it ++ c.args.to.now ∷ []) c.move_name.result (objects_in new.bytes new.names.items) (opens_in new.names.items)) (sym root') c.move_name.ensures.renamed)

pub returns-in-Root-Root-clause-nested : goal.returns-in-Root-Root-clause-nested
returns-in-Root-Root-clause-nested c = λ up up' led led' nested.
    let bytes = c.args.self.now.bytes in
    let names = c.args.self.now.names.items in
    let objects = objects_in bytes names in
    let root : up ≡ [] = root_at bytes names up (subst (λ (handle : FileHandle). LeadsTo objects (opens_in names handle) up) c.in-Root-Root.is-0 led) in
    let root' : up' ≡ [] = root_at bytes names up' (subst (λ (handle : FileHandle). LeadsTo objects (opens_in names handle) up') c.in-Root-Root.is-1 led') in
    let first : AreNested (c.args.from.now ∷ []) (up' ++ c.args.to.now ∷ []) = subst (λ (it : Names). AreNested (it ++ c.args.from.now ∷ []) (up' ++ c.args.to.now ∷ [])) root nested in
    let both : AreNested (c.args.from.now ∷ []) (c.args.to.now ∷ []) = subst (λ (it : Names). AreNested (c.args.from.now ∷ []) (it ++ c.args.to.now ∷ [])) root' first in
    c.move_name.ensures.same (nested_names c.args.from.now c.args.to.now both)
