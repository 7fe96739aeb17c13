use Rattle.std.proofs.Common.{Some, refl, ◌+◌, ◌≡◌, sym, subst, ◌∙◌}
use Rattle.table_requests.specs.Listed.{InFlight, requests_of}
use Rattle.table_requests.specs.PinCounts.{pins_in}
use Rattle.table_requests.specs.RequestMaps.{pinning}
use Rattle.table_requests.proofs.PinCounting.{counts_as, same_totals}
use Rattle.table_requests.proofs.CountedHolds.{holders_stay, under_with}
use Rattle.table_requests.proofs.Kept.{IsFlying_kept}
use Rattle.table_requests.proofs.request_maps.RequestsInFlight.pin.Goals as goal

pub returns-clause-law : goal.returns-clause-law
returns-clause-law c = IsFlying_kept c.pin_for.new.flights c.pin_for.ensures.apart

pub invariant_of-self : goal.invariant_of-self
unfolding requests_of
invariant_of-self c =
    let old = c.self.invariant in
    let pin = c.pin_for.ensures in
    let here = subst (λ (a : InFlight). (requests_of a).at c.args.id ≡ Some c.requires.0) (sym c.self.view_is) c.requires.1 in
    let step = pin.pins c.requires.0 here in
    record {
      apart = pin.apart;
      counted = same_totals c.count.new.counts (λ n. pins_in c.self.inside.flights.items n + counts_as c.args.number n) (pins_in c.pin_for.new.flights.items) (λ n. sym (pin.pinned n)) (c.count.ensures.counted (pins_in c.self.inside.flights.items) old.counted);
      held = holders_stay c.self.inside.held c.self.inside.flights.items c.pin_for.new.flights.items pin.held
          (under_with c.self.inside.flights.items c.pin_for.new.flights.items c.args.id c.requires.0 (pinning c.requires.0 c.args.number) here refl step.at) old.held;
      below = λ within. pin.below c.self.inside.next (old.below within);
      nodes = old.nodes ∙ sym step.nodes;
      postings = old.postings ∙ sym step.postings;
      files = old.files ∙ sym step.files;
    }
