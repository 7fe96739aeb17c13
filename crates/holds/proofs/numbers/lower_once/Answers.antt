use Rattle.std.proofs.Common.{sym, ◌∙◌, arith}
use Rattle.holds.proofs.Numbering.{counted_new}
use Rattle.holds.proofs.numbers.lower_once.Goals as goal

pub returns-clause-shared : goal.returns-clause-shared
returns-clause-shared c p =
    let new = counted_new c.args.before.now c.args.path.now c.args.one.shared (sym c.contains.ensures.among ∙ c.if-contains.false) p in
    let step = c.lower.ensures.shared p in
    omega (arith, new, step)

pub returns-clause-exclusive : goal.returns-clause-exclusive
returns-clause-exclusive c p =
    let new = counted_new c.args.before.now c.args.path.now c.args.one.exclusive (sym c.contains.ensures.among ∙ c.if-contains.false) p in
    let step = c.lower.ensures.exclusive p in
    omega (arith, new, step)
