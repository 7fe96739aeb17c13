use Rattle.std.proofs.Common.{refl, sym, ap, ◌∙◌, Some, ◌≡◌, ◌-◌, arith}
use Rattle.std.specs.Prelude.{nat_eq}
use Rattle.collections.specs.Living.{found, weight}
use Rattle.table_files.proofs.Counting.{another_closed, last_closed, of_some}
use Rattle.table_files.proofs.counts.lower.Goals as goal

pub returns-then-count-gt1-clause-total : goal.returns-then-count-gt1-clause-total
returns-then-count-gt1-clause-total c =
    let m = c.args.counts.now.by_number in
    let here = of_some (found nat_eq m c.args.number) c.openings_of-count.result (sym c.openings_of-count.ensures) (omega (arith, c.openings_of-count.ensures, c.requires.some)) in
    another_closed m c.set.new.map c.args.number (c.openings_of-count.result - 1) c.set.ensures.set c.openings_of-count.result here c.if-count-gt1.true refl c.set.ensures.live c.args.counts.now.nodes

pub returns-else-count-gt1-clause-total : goal.returns-else-count-gt1-clause-total
returns-else-count-gt1-clause-total c =
    let m = c.args.counts.now.by_number in
    let one : c.openings_of-count.result ≡ 1 = omega (arith, c.openings_of-count.ensures, c.requires.some, c.if-count-gt1.false) in
    let here : found nat_eq m c.args.number ≡ Some 1 = of_some (found nat_eq m c.args.number) 1 (sym c.openings_of-count.ensures ∙ one) (omega arith) in
    let weighed = ap weight here in
    last_closed m c.take_out.new.map c.args.number c.take_out.ensures.taken here (omega (arith, c.take_out.ensures.live, weighed)) c.args.counts.now.nodes
