use Rattle.std.proofs.Common.{ap}
use Rattle.ops.specs.declared.parts.NewParts.{NewParts}
use Rattle.ops.specs.Scripts.{set_parts, tell_attributes}
use Rattle.ops.proofs.setting.start_set_attr.Goals as goal

pub returns : goal.returns
returns c = ap (λ (parts : NewParts). set_parts c.args.path.now parts (tell_attributes c.args.path.now)) c.parts_of-parts.ensures
