use Rattle.std.proofs.Common.{rules}
use Rattle.mirrord_commands.proofs.Refusing.{device_refuses}
use Rattle.mirrord_commands.proofs.options.device_asked.Goals as goal

pub returns-in_err-terms-clause-err : goal.returns-in_err-terms-clause-err
returns-in_err-terms-clause-err c = search (rules, device_refuses _ _ c.in_err-terms.ensures.err)
