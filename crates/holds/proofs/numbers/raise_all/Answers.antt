use Rattle.std.proofs.Common.{take, ap, ◌∙◌, arith}
use Rattle.holds.proofs.Numbering.{counted_no, same_holders}
use Rattle.holds.specs.declared.numbers.HoldNumbers.{HoldNumbers}
use Rattle.holds.specs.Numbers.{holders_on}
use Rattle.holds.proofs.numbers.raise_all.Goals as goal

pub raise_once-requires-clause-shared : goal.raise_once-requires-clause-shared
raise_once-requires-clause-shared c absent =
    let x = c.index-paths-i.result in
    let none = counted_no (take c.loop-i.i c.args.paths.now) x c.args.one.shared absent in
    let now = c.loop-i.invariant.shared x in
    let few = (c.requires.few x).0 in
    omega (arith, none, now, few)

pub raise_once-requires-clause-exclusive : goal.raise_once-requires-clause-exclusive
raise_once-requires-clause-exclusive c absent =
    let x = c.index-paths-i.result in
    let none = counted_no (take c.loop-i.i c.args.paths.now) x c.args.one.exclusive absent in
    let now = c.loop-i.invariant.exclusive x in
    let few = (c.requires.few x).1 in
    omega (arith, none, now, few)

pub returns-in-Err-clause-same : goal.returns-in-Err-clause-same
returns-in-Err-clause-same c p =
    let stays = c.in-Err.ensures.same in
    let shared = ap (λ (n : HoldNumbers). (holders_on n p).shared) stays ∙ c.loop-i.invariant.shared p in
    let exclusive = ap (λ (n : HoldNumbers). (holders_on n p).exclusive) stays ∙ c.loop-i.invariant.exclusive p in
    let less = c.lower_all.ensures.lowers.shared p in
    let alone = c.lower_all.ensures.lowers.exclusive p in
    same_holders (holders_on c.lower_all.new.numbers p) (holders_on c.args.numbers.now p) (omega (arith, shared, less)) (omega (arith, exclusive, alone))
