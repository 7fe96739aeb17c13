use Rattle.std.proofs.Common.{List, [], ◌∷◌, ◌++◌, ap, subst, sym, ◌∙◌}
use Rattle.paths.specs.Prefixes.{Name}
use Rattle.laws.specs.Objects.{HasOneName}
use Rattle.laws.specs.FileNames.{at_in}
use Rattle.laws.proofs.FileChanges.{one_name}
use Rattle.laws.proofs.object_disk.one_file.OneFile.new.Goals as goal

pub returns : goal.returns
returns c =
    subst (λ (names : List Name). HasOneName (at_in names)) (sym (c.in_ok-push.ensures.items ∙ ap (λ (names : List Name). names ++ c.args.name ∷ []) c.new-names.ensures.items)) (one_name c.args.name)
