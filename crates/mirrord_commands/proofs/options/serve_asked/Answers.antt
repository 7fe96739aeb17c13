use Rattle.std.proofs.Common.{rules}
use Rattle.mirrord_commands.proofs.Refusing.{serve_refuses}
use Rattle.mirrord_commands.proofs.options.serve_asked.Goals as goal

pub returns-in_err-terms-clause-err : goal.returns-in_err-terms-clause-err
returns-in_err-terms-clause-err c = search (rules, serve_refuses _ _ c.in_err-terms.ensures.err)
