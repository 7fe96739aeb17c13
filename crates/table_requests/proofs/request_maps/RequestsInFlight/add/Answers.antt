use Rattle.std.proofs.Common.{ℕ, ◌+◌, List, [], ◌∷◌, ◌++◌, ap, ◌∙◌, arith}
use Rattle.std.proofs.lemmas.List.Sums.{sum_by_push}
use Rattle.table_requests.specs.declared.data.RequestInFlight.{RequestInFlight}
use Rattle.table_requests.specs.RequestMaps.{files_promised, nodes_promised, postings_promised}
use Rattle.table_requests.specs.PinCounts.{pins_in, times}
use Rattle.table_requests.proofs.CountedPins.{pins_in-push}
use Rattle.table_requests.proofs.NextIds.{below_added}
use Rattle.table_requests.proofs.PinCounting.{same_totals}
use Rattle.table_requests.proofs.Lookups.{HaveOwnIds-push}
use Rattle.table_requests.proofs.Kept.{IsFlying_kept}
use Rattle.table_requests.proofs.Stepping.{Adds-listed, fresh_in}
use Rattle.table_requests.proofs.request_maps.RequestsInFlight.add.Goals as goal

pub invariant_of-self : goal.invariant_of-self
invariant_of-self c =
    let old = c.self.invariant in
    record {
      apart = old.apart;
      counted = old.counted;
      held = c.in_err-add_holder.ensures.same c.self.inside.flights.items old.held;
      below = old.below;
      nodes = old.nodes;
      postings = old.postings;
      files = old.files;
    }

pub invariant_of-self-2 : goal.invariant_of-self-2
invariant_of-self-2 c =
    let fs = c.self.inside.flights.items in
    let g : RequestInFlight = c.args.flight in
    let fresh = fresh_in c.self.inside.flights c.args.self.now c.self.view_is g.id c.requires.fresh in
    rw c.push_reserved.ensures.items (record {
      apart = HaveOwnIds-push fs g c.self.invariant.apart fresh;
      counted = same_totals c.count_all.new.counts _ (pins_in (fs ++ g ∷ [])) (λ n. ap (λ (ns : List ℕ). pins_in fs n + times n ns) c.as_slice.ensures ∙ pins_in-push fs g n) (c.count_all.ensures.counted (pins_in fs) c.self.invariant.counted);
      held = c.in_ok-add_holder.ensures.added fs fresh c.self.invariant.held;
      below = below_added fs g c.self.inside.next c.next_after-self-inside.result fresh c.self.invariant.below c.next_after-self-inside.ensures.more c.next_after-self-inside.ensures.above;
      nodes = omega (arith, c.self.invariant.nodes, c.promise-promise.ensures.nodes, sum_by_push (λ (f : RequestInFlight). nodes_promised f.stage) fs g);
      postings = omega (arith, c.self.invariant.postings, c.promise-promise.ensures.postings, sum_by_push (λ (f : RequestInFlight). postings_promised f.stage) fs g);
      files = omega (arith, c.self.invariant.files, c.promise-promise.ensures.files, sum_by_push (λ (f : RequestInFlight). files_promised f.stage) fs g);
    })

pub returns-clause-adds : goal.returns-clause-adds
returns-clause-adds c =
    let fresh = fresh_in c.self.inside.flights c.args.self.now c.self.view_is c.args.flight.id c.requires.fresh in
    rw (← c.self.view_is, c.push_reserved.ensures.items) (Adds-listed c.self.inside.flights.items c.args.flight _ _ fresh)

pub returns-clause-law : goal.returns-clause-law
returns-clause-law c =
    let fresh = fresh_in c.self.inside.flights c.args.self.now c.self.view_is c.args.flight.id c.requires.fresh in
    IsFlying_kept c.push_reserved.new.self (rw c.push_reserved.ensures.items (HaveOwnIds-push c.self.inside.flights.items c.args.flight c.self.invariant.apart fresh))
