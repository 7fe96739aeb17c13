use Rattle.std.proofs.Common.{rules, sym, ◌∙◌}
use Rattle.mirrord_commands.proofs.Refusing.{hex_refuses}
use Rattle.mirrord_commands.proofs.options.asked_by.Goals as goal

pub returns : goal.returns
returns c = search (rules, hex_refuses c.args.name.now (sym c.eq.ensures ∙ c.if-eq.false) (sym c.eq-2.ensures ∙ c.if-eq-2.false) (sym c.eq-3.ensures ∙ c.if-eq-3.false))
