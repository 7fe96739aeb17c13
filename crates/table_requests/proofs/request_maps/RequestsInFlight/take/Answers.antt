use Rattle.std.proofs.Common.{ℕ, List, ◌+◌, ◌≡◌, ap, sym, ◌∙◌, arith}
use Rattle.table_requests.specs.Listed.{requests_of}
use Rattle.table_requests.specs.PinCounts.{pins_in, times}
use Rattle.table_requests.proofs.CountedPins.{counted_back}
use Rattle.table_requests.proofs.CountedHolds.{holders_stay, under_without}
use Rattle.table_requests.proofs.Kept.{IsFlying_kept}
use Rattle.table_requests.proofs.request_maps.RequestsInFlight.take.Goals as goal

pub returns-clause-law : goal.returns-clause-law
returns-clause-law c = IsFlying_kept c.take_answered.new.flights c.take_answered.ensures.apart

pub returns-in_err-ended-clause-law : goal.returns-in_err-ended-clause-law
returns-in_err-ended-clause-law c = IsFlying_kept c.take_answered.new.flights c.take_answered.ensures.apart

pub invariant_of-self-2 : goal.invariant_of-self-2
unfolding requests_of
invariant_of-self-2 c =
    let old = c.self.invariant in
    let took = c.in_ok-ended.ensures in
    let step = took.some in
    let fs = c.self.inside.flights.items in
    let gs = c.take_answered.new.flights.items in
    let ns = c.as_slice.result.now in
    let less : (n : ℕ) → pins_in gs n + times n ns ≡ pins_in fs n = λ n. ap (λ (ms : List ℕ). pins_in gs n + times n ms) c.as_slice.ensures ∙ took.pinned n in
    record {
      apart = took.apart;
      counted = counted_back fs gs c.uncount_all.new.counts ns less (c.uncount_all.ensures.counted (pins_in fs) old.counted (λ n. let it = less n in omega (arith, it)));
      held = holders_stay c.self.inside.held fs gs c.take_answered.ensures.held (under_without fs gs c.args.id c.in_ok-ended.ended.before c.in_ok-ended.ended.opened step.flight step.here step.answered step.at) old.held;
      below = λ within. took.below c.self.inside.next (old.below within);
      nodes = old.nodes ∙ sym step.nodes;
      postings = old.postings ∙ sym step.postings;
      files = old.files ∙ sym step.files;
    }
