use Rattle.std.proofs.Common.{rules, not}
use Rattle.std.proofs.lemmas.Fn.{filter_same}
use Rattle.backing.specs.declared.call.Child.{Child}
use Rattle.paths.specs.Hidden.{is_reserved}
use Rattle.handles.proofs.names.drop_reserved.Goals as goal

pub returns : goal.returns
returns c = filter_same _ (λ (child : Child). not (is_reserved child.name)) _ (λ x b f' k. search rules) _ _ c.retain.ensures.filtered
