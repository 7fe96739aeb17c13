use Rattle.std.proofs.Common.{arith, rules}
use Rattle.ledger.proofs.Rising.{place_last}
use Rattle.ledger.proofs.births.place_of.Goals as goal

pub returns-in_default : goal.returns-in_default
returns-in_default c = place_last c.args.number c.args.births.now c.requires (λ d some. let is = c.in-Some.ensures in let less = c.if-number-last.false in grind (arith, rules, is, less))
