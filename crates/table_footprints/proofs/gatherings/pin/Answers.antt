use Rattle.std.proofs.Common.{Some, sym, ap, ◌∙◌}
use Rattle.std.proofs.lemmas.Option.{none-some, same_Some}
use Rattle.table_footprints.proofs.Gathering.{pin_one, pin_two}
use Rattle.table_footprints.proofs.gatherings.pin.Goals as goal

pub returns-then-node-number-clause-pins : goal.returns-then-node-number-clause-pins
returns-then-node-number-clause-pins c n =
    rw (c.add-then-node-number.ensures, c.add.ensures) (pin_two c.args.pins.now.numbers c.args.number c.in-Some.node c.args.found
    (λ m. (λ e. same_Some c.in-Some.node m (sym c.in-Some.is ∙ e), λ e. c.in-Some.is ∙ ap (λ k. Some k) e)) n)

pub returns-else-node-number-clause-pins : goal.returns-else-node-number-clause-pins
returns-else-node-number-clause-pins c n =
    rw c.add.ensures (pin_one c.args.pins.now.numbers c.args.number c.args.found
    (λ m e. sym c.if-node-number.false ∙ same_Some c.in-Some.node m (sym c.in-Some.is ∙ e)) n)

pub returns-in-None-clause-pins : goal.returns-in-None-clause-pins
returns-in-None-clause-pins c n =
    rw c.add.ensures (pin_one c.args.pins.now.numbers c.args.number c.args.found (λ m e. absurd (none-some m (sym c.in-None.is ∙ e))) n)
