use Rattle.std.proofs.Common.{◌≡◌, ◌+◌, ◌-◌, ℕ, ap, arith, length, subst, sym}
use Rattle.ledger.specs.Periods.{Periods}
use Rattle.ledger.specs.Postings.{Postings}
use Rattle.ledger.specs.Sums.{IsCarriedOver}
use Rattle.table_steps.specs.Kept.{IsKept, world_of}
use Rattle.table_steps.specs.Steps.{ClosesPeriod}
use Rattle.table_steps.proofs.PeriodKept.{next_count, next_entered, next_fewer, next_kept, next_left, next_period, next_room}
use Rattle.table_steps.proofs.state.State.close_period.Goals as goal

pub begin-requires-clause-left : goal.begin-requires-clause-left
begin-requires-clause-left c = next_left c.args.self.now c.requires c.len-nodes.ensures.census c.replace-ledger.result c.close-next.result c.open_living.new.next c.replace-ledger.ensures.value
    c.close-next.ensures.births c.close-next.ensures.births_once c.close-next.ensures.totals c.close-next.ensures.limit c.close-next.ensures.room c.close-next.ensures.places
    c.open_living.ensures.living c.open_living.ensures.opened c.open_living.ensures.closed c.open_living.ensures.rest c.open_living.ensures.room

pub begin-requires-clause-entered : goal.begin-requires-clause-entered
begin-requires-clause-entered c = next_entered c.args.self.now c.requires c.len-nodes.ensures.census c.replace-ledger.result c.close-next.result c.open_living.new.next c.replace-ledger.ensures.value
    c.close-next.ensures.births c.close-next.ensures.births_once c.close-next.ensures.totals c.close-next.ensures.limit c.close-next.ensures.room c.close-next.ensures.places
    c.open_living.ensures.living c.open_living.ensures.opened c.open_living.ensures.closed c.open_living.ensures.rest c.open_living.ensures.room

pub overflow_sub-result : goal.overflow_sub-result
overflow_sub-result c =
    let fewer = next_fewer c.args.self.now c.requires c.len-nodes.ensures.census c.replace-ledger.result c.close-next.result c.open_living.new.next c.replace-ledger.ensures.value
    c.close-next.ensures.births c.close-next.ensures.births_once c.close-next.ensures.totals c.close-next.ensures.limit c.close-next.ensures.room c.close-next.ensures.places
    c.open_living.ensures.living c.open_living.ensures.opened c.open_living.ensures.closed c.open_living.ensures.rest c.open_living.ensures.room in
    omega (arith, fewer, c.made.ensures, c.made-made.ensures, ap {B = ℕ} (λ (l : Postings). length l.made.last) c.begin.ensures.same)

carried : (c : goal.After-made) → IsCarriedOver c.open_living.new.next.made
carried c = subst (λ (l : Postings). IsCarriedOver l.made) c.begin.ensures.same c.begin.ensures.carried

pub returns-clause-closes : goal.returns-clause-closes
returns-clause-closes c =
    let s = c.args.self.now in
    let fewer = next_fewer c.args.self.now c.requires c.len-nodes.ensures.census c.replace-ledger.result c.close-next.result c.open_living.new.next c.replace-ledger.ensures.value
    c.close-next.ensures.births c.close-next.ensures.births_once c.close-next.ensures.totals c.close-next.ensures.limit c.close-next.ensures.room c.close-next.ensures.places
    c.open_living.ensures.living c.open_living.ensures.opened c.open_living.ensures.closed c.open_living.ensures.rest c.open_living.ensures.room in
    let shorter : c.made-made.result - c.made.result + length c.open_living.new.next.made.last ≡ length s.ledger.made.last = omega (arith, fewer, c.made.ensures, c.made-made.ensures, ap {B = ℕ} (λ (l : Postings). length l.made.last) c.begin.ensures.same) in
    subst (λ (l : Postings). ClosesPeriod (world_of s) (c.made-made.result - c.made.result) (world_of (record s { ledger = l }))) (sym c.begin.ensures.same)
    (next_period c.args.self.now c.requires c.len-nodes.ensures.census c.replace-ledger.result c.close-next.result c.open_living.new.next c.replace-ledger.ensures.value
    c.close-next.ensures.births c.close-next.ensures.births_once c.close-next.ensures.totals c.close-next.ensures.limit c.close-next.ensures.room c.close-next.ensures.places
    c.open_living.ensures.living c.open_living.ensures.opened c.open_living.ensures.closed c.open_living.ensures.rest c.open_living.ensures.room (carried c) (c.made-made.result - c.made.result) shorter)

pub returns-clause-living : goal.returns-clause-living
returns-clause-living c =
    let count = next_count c.args.self.now c.requires c.len-nodes.ensures.census c.replace-ledger.result c.close-next.result c.open_living.new.next c.replace-ledger.ensures.value
    c.close-next.ensures.births c.close-next.ensures.births_once c.close-next.ensures.totals c.close-next.ensures.limit c.close-next.ensures.room c.close-next.ensures.places
    c.open_living.ensures.living c.open_living.ensures.opened c.open_living.ensures.closed c.open_living.ensures.rest c.open_living.ensures.room in
    omega (arith, count, ap {B = ℕ} (λ (l : Postings). length l.made.last) c.begin.ensures.same)

pub returns-clause-room : goal.returns-clause-room
returns-clause-room c =
    let room = next_room c.args.self.now c.requires c.len-nodes.ensures.census c.replace-ledger.result c.close-next.result c.open_living.new.next c.replace-ledger.ensures.value
    c.close-next.ensures.births c.close-next.ensures.births_once c.close-next.ensures.totals c.close-next.ensures.limit c.close-next.ensures.room c.close-next.ensures.places
    c.open_living.ensures.living c.open_living.ensures.opened c.open_living.ensures.closed c.open_living.ensures.rest c.open_living.ensures.room in
    omega (arith, room, ap {B = ℕ} (λ (l : Postings). length l.made.last) c.begin.ensures.same, ap {B = ℕ} (λ (l : Postings). l.room) c.begin.ensures.same)

pub returns-clause-kept : goal.returns-clause-kept
returns-clause-kept c =
    subst (λ (l : Postings). IsKept (record c.args.self.now { ledger = l })) (sym c.begin.ensures.same)
    (next_kept c.args.self.now c.requires c.len-nodes.ensures.census c.replace-ledger.result c.close-next.result c.open_living.new.next c.replace-ledger.ensures.value
    c.close-next.ensures.births c.close-next.ensures.births_once c.close-next.ensures.totals c.close-next.ensures.limit c.close-next.ensures.room c.close-next.ensures.places
    c.open_living.ensures.living c.open_living.ensures.opened c.open_living.ensures.closed c.open_living.ensures.rest c.open_living.ensures.room (carried c))
