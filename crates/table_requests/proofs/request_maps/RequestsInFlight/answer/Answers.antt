use Rattle.std.proofs.Common.{sym, arith}
use Rattle.table_requests.specs.Listed.{requests_of}
use Rattle.table_requests.specs.PinCounts.{pins_in}
use Rattle.table_requests.proofs.PinCounting.{same_totals}
use Rattle.table_requests.proofs.Kept.{IsFlying_kept}
use Rattle.table_requests.proofs.request_maps.RequestsInFlight.answer.Goals as goal

pub returns-clause-law : goal.returns-clause-law
returns-clause-law c = IsFlying_kept c.end_work.new.flights c.end_work.ensures.apart

pub returns-in_err-work-clause-law : goal.returns-in_err-work-clause-law
returns-in_err-work-clause-law c = IsFlying_kept c.end_work.new.flights c.end_work.ensures.apart

pub drop_holder-requires : goal.drop_holder-requires
drop_holder-requires c = record { loses = (c.self.inside.flights.items, c.end_work.new.flights.items, c.self.invariant.held, c.in_ok-work.ensures.held) }

pub invariant_of-self-2 : goal.invariant_of-self-2
unfolding requests_of
invariant_of-self-2 c =
    let old = c.self.invariant in
    let step = c.in_ok-work.ensures.some in
    let work = c.end_work.ensures in
    record {
      apart = work.apart;
      counted = same_totals c.self.inside.pinned (pins_in c.self.inside.flights.items) (pins_in c.end_work.new.flights.items) (λ n. sym (work.pinned n)) old.counted;
      held = c.drop_holder.ensures.dropped c.self.inside.flights.items c.end_work.new.flights.items old.held c.in_ok-work.ensures.held;
      below = λ within. work.below c.self.inside.next (old.below within);
      nodes = omega (arith, old.nodes, step.nodes);
      postings = omega (arith, old.postings, step.postings);
      files = omega (arith, old.files, step.files);
    }
