use Rattle.std.proofs.Common.{◌≡◌, true, false, List, [], ◌∷◌, ◌++◌, None, sym, ap, ◌∙◌, subst}
use Rattle.paths.specs.Prefixes.{Name, Names}
use Rattle.backing.specs.Tree.{IsFile}
use Rattle.laws.specs.declared.object_disk.one_file.FileHandle.{FileHandle}
use Rattle.laws.specs.declared.object_disk.one_file.FileHandle.TheVariants.{OfFile}
use Rattle.laws.specs.Objects.{LeadsTo, tree_by_paths}
use Rattle.laws.specs.FileNames.{has, objects_in, opens_in}
use Rattle.laws.specs.FileNamesLemmas.{at_no_name}
use Rattle.laws.proofs.Becoming.{nothing_at}
use Rattle.laws.proofs.FileChanges.{file_at, is_file, root_at}
use Rattle.laws.proofs.object_disk.one_file_disk.OneFileObjectDisk.open_file.Goals as goal

pub returns-then-has_name : goal.returns-then-has_name
returns-then-has_name c = λ up led.
    let bytes = c.args.self.now.bytes in
    let names = c.args.self.now.names.items in
    let objects = objects_in bytes names in
    let there : has names c.args.name.now ≡ true = ap (λ (names : List Name). has names c.args.name.now) (sym c.deref.ensures.value) ∙ (sym c.has_name.ensures ∙ c.if-has_name.true) in
    let root : up ≡ [] = root_at bytes names up (subst (λ (handle : FileHandle). LeadsTo objects (opens_in names handle) up) c.in-Root.is led) in
    subst (λ (it : Names). LeadsTo objects (opens_in names OfFile) (it ++ c.args.name.now ∷ []) × IsFile (tree_by_paths objects (it ++ c.args.name.now ∷ []))) (sym root) (file_at bytes names c.args.name.now there, is_file bytes names c.args.name.now there)

pub returns-else-has_name : goal.returns-else-has_name
returns-else-has_name c = λ up led.
    let bytes = c.args.self.now.bytes in
    let names = c.args.self.now.names.items in
    let objects = objects_in bytes names in
    let gone : has names c.args.name.now ≡ false = ap (λ (names : List Name). has names c.args.name.now) (sym c.deref.ensures.value) ∙ (sym c.has_name.ensures ∙ c.if-has_name.false) in
    let root : up ≡ [] = root_at bytes names up (subst (λ (handle : FileHandle). LeadsTo objects (opens_in names handle) up) c.in-Root.is led) in
    subst (λ (it : Names). tree_by_paths objects (it ++ c.args.name.now ∷ []) ≡ None) (sym root) (nothing_at objects (c.args.name.now ∷ []) (at_no_name names c.args.name.now gone))
