use Rattle.std.proofs.Common.{Some, ◌≡◌, sym, subst, ◌∙◌}
use Rattle.table_requests.specs.Listed.{InFlight, requests_of}
use Rattle.table_requests.specs.PinCounts.{pins_in}
use Rattle.table_requests.specs.RequestMaps.{opening}
use Rattle.table_requests.proofs.PinCounting.{same_totals}
use Rattle.table_requests.proofs.CountedHolds.{holders_stay, noted_holds, under_with}
use Rattle.table_requests.proofs.Kept.{IsFlying_kept}
use Rattle.table_requests.proofs.request_maps.RequestsInFlight.note_file.Goals as goal

pub returns-clause-law : goal.returns-clause-law
returns-clause-law c = IsFlying_kept c.note_for.new.flights c.note_for.ensures.apart

pub invariant_of-self : goal.invariant_of-self
unfolding requests_of
invariant_of-self c =
    let old = c.self.invariant in
    let note = c.note_for.ensures in
    let here = subst (λ (a : InFlight). (requests_of a).at c.args.id ≡ Some c.requires.0) (sym c.self.view_is) c.requires.1 in
    let step = note.notes c.requires.0 here in
    record {
      apart = note.apart;
      counted = same_totals c.self.inside.pinned (pins_in c.self.inside.flights.items) (pins_in c.note_for.new.flights.items) (λ n. sym (note.pinned n)) old.counted;
      held = holders_stay c.self.inside.held c.self.inside.flights.items c.note_for.new.flights.items note.held
          (under_with c.self.inside.flights.items c.note_for.new.flights.items c.args.id c.requires.0 (opening c.requires.0 c.args.handle) here (noted_holds c.requires.0.stage c.args.handle) step.at) old.held;
      below = λ within. note.below c.self.inside.next (old.below within);
      nodes = old.nodes ∙ sym step.nodes;
      postings = old.postings ∙ sym step.postings;
      files = old.files ∙ sym step.files;
    }
