use Rattle.std.proofs.Common.{◌≡◌, true, List, sym, ap, ◌∙◌}
use Rattle.paths.specs.Prefixes.{Name}
use Rattle.laws.specs.FileNames.{has}
use Rattle.laws.proofs.FileChanges.{removes_name}
use Rattle.laws.proofs.object_disk.one_file.OneFile.remove.Goals as goal

pub returns : goal.returns
returns c =
    let names = c.args.self.now.names.items in
    let there : has names c.args.name.now ≡ true = ap (λ (names : List Name). has names c.args.name.now) (sym c.deref.ensures.value) ∙ (sym c.has_name.ensures ∙ c.if-not-has_name.false) in
    removes_name c.args.self.now.bytes names c.args.name.now there c.drop_name.new.names.items c.drop_name.ensures
