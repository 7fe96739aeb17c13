use Rattle.std.proofs.Common.{take, sym, arith}
use Rattle.holds.proofs.Numbering.{counted_no, counted_own}
use Rattle.holds.proofs.numbers.lower_all.Goals as goal

pub lower_once-requires-clause-shared : goal.lower_once-requires-clause-shared
lower_once-requires-clause-shared c absent =
    let x = c.index-paths-i.result in
    let none = counted_no (take c.loop-i.i c.args.paths.now) x c.args.one.shared absent in
    let own = counted_own c.args.paths.now c.loop-i.i x x c.args.one.shared c.loop-i-test.true (sym c.index-paths-i.is) in
    let now = c.loop-i.invariant.shared x in
    let least = c.requires.shared x in
    omega (arith, none, own, now, least)

pub lower_once-requires-clause-exclusive : goal.lower_once-requires-clause-exclusive
lower_once-requires-clause-exclusive c absent =
    let x = c.index-paths-i.result in
    let none = counted_no (take c.loop-i.i c.args.paths.now) x c.args.one.exclusive absent in
    let own = counted_own c.args.paths.now c.loop-i.i x x c.args.one.exclusive c.loop-i-test.true (sym c.index-paths-i.is) in
    let now = c.loop-i.invariant.exclusive x in
    let least = c.requires.exclusive x in
    omega (arith, none, own, now, least)
