use Rattle.std.proofs.Common.{rules, not}
use Rattle.std.proofs.lemmas.Fn.{filter_same}
use Rattle.paths.specs.Prefixes.{Name, is_name}
use Rattle.laws.proofs.object_disk.one_file.drop_name.Goals as goal

pub returns : goal.returns
returns c = filter_same _ (λ (other : Name). not (is_name other c.args.name.now)) _ (λ x b f' k. search rules) _ _ c.retain.ensures.filtered
