use Rattle.std.proofs.Common.{◌≡◌, true, false, List, sym, ap, ◌∙◌}
use Rattle.paths.specs.Prefixes.{Name}
use Rattle.laws.specs.FileNames.{has}
use Rattle.laws.proofs.FileChanges.{adds_name}
use Rattle.laws.proofs.object_disk.one_file.OneFile.add_name.Goals as goal

pub returns-in-Ok : goal.returns-in-Ok
returns-in-Ok c =
    let names = c.args.self.now.names.items in
    let there : has names c.args.from.now ≡ true = ap (λ (names : List Name). has names c.args.from.now) (sym c.deref.ensures.value) ∙ (sym c.has_name.ensures ∙ c.if-not-has_name.false) in
    let free : has names c.args.to.now ≡ false = ap (λ (names : List Name). has names c.args.to.now) (sym c.deref-2.ensures.value) ∙ (sym c.has_name-2.ensures ∙ c.if-has_name.false) in
    adds_name c.args.self.now.bytes names c.args.from.now there c.args.to.now c.push_name.new.names.items free c.in-Ok.ensures.ok
