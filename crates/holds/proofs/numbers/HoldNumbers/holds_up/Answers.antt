use Rattle.std.proofs.lemmas.Bool.{false≢true}
use Rattle.holds.proofs.Numbering.{none_held_up}
use Rattle.holds.proofs.numbers.HoldNumbers.holds_up.Goals as goal

pub returns-then-self-eq0 : goal.returns-then-self-eq0
returns-then-self-eq0 c = (λ bad. absurd (false≢true bad), λ h. absurd (none_held_up c.args.self.now c.args.wanted.now c.requires c.if-self-eq0.true h))
