-- The end of the work on a request: it holds nothing any more, and what it was promised is available for its end.
use Rattle.std.proofs.Common.{ℕ, ◌≡◌, ◌==◌, Bool, true, List, [], append-nil, length, Some, None, refl, sym, ap, ◌∙◌, subst, inl, inr, arith, ◌≤◌}
use Rattle.std.proofs.lemmas.Bool.{cond-true, eq-eqb, true≢false}
use Rattle.std.proofs.lemmas.Option.{same_Some}
use Rattle.tree.specs.Places.{at_in}
use Rattle.table_requests.specs.declared.data.RequestInFlight.{RequestInFlight as Recorded}
use Rattle.table_requests.specs.declared.data.Stage.TheVariants as recorded
use Rattle.table_requests.specs.declared.data.Work.{Work as RecordedWork}
use Rattle.table_requests.specs.RequestMaps.{RequestsInFlight as Recordeds, RequestMaps, AreLawfulRequests, Answers, HasNoneWorking, is_working, with_flight}
use Rattle.table_requests.specs.RequestMaps as flying
use Rattle.table_requests.specs.Listed.{InFlight, requests_of}
use Rattle.table_steps.specs.Upheld.{IsUpheld}
use Rattle.table_footprints.specs.NewRequests.{footprint_in}
use Rattle.table_steps.specs.declared.data.Outcome.{Outcome}
use Rattle.table_steps.specs.declared.state.State.{State}
use Rattle.table_steps.specs.Answers.{Answer}
use Rattle.table_steps.specs.Ending.{IsEnding}
use Rattle.table_steps.specs.Kept.{IsKept, flight_of, flights_in, work_of, world_of}
use Rattle.table_steps.specs.Steps.{Ends, Finishes, HoldsUp, act_of, answered}
use Rattle.table_steps.specs.World.{Answered, AreReady, RequestInFlight, RequestsInFlight, IsAtWork, IsReady, Work, Working, World, with_entry}
use Rattle.table_steps.proofs.Ends.{ends_answered}
use Rattle.table_steps.proofs.Filing.{kept_same}
use Rattle.table_steps.proofs.Viewed.{IsFewer, at_work, fewer_at_work, fewer_held, fewer_idle, fewer_provided, fewer_ready, flights_with, recorded_at}
use Rattle.table_steps.proofs.Few.{few_with, none_dropped}
use Rattle.terms.specs.declared.limits.Counts.TheVariants.{Free}
use Rattle.table_requests.specs.declared.data.Stage.{Stage as Recording}

-- ---- there is no such request in progress

-- a request in progress with that record
recorded_working : (all : RequestMaps) (id : ℕ) → HasNoneWorking all.at id → (f : RequestInFlight) (work : Work) → IsAtWork (flights_in all) id f work → ⊥
recorded_working all id none f work at =
    let it = recorded_at all id f work at in
    true≢false (sym (ap is_working it.working) ∙ none it.flight it.here)

pub finishes_none : (s : State) (flights : InFlight) (id : ℕ) (o : Outcome) (answer : Answer) → answer ≡ record { id = id; given = []; lost = true; opened = None } → HasNoneWorking (requests_of s.flights).at id → flights ≡ s.flights
    → Finishes (world_of s) id o answer (world_of (record s { flights = flights }))
finishes_none s flights id o answer is none same = record {
  lost = λ _. (is, ap (λ (f : InFlight). world_of (record s { flights = f })) same);
  found = λ f work here. absurd (recorded_working (requests_of s.flights) id none f work here);
}

-- ---- there is one

module _ (s : State) (kept : IsKept s) (flights : InFlight) (id : ℕ) (work : RecordedWork) (a : Answers (requests_of s.flights) id work (requests_of flights)) (law : AreLawfulRequests (requests_of flights)) where
  fewer : IsFewer (requests_of s.flights) (requests_of flights)
  fewer = fewer_idle (requests_of s.flights) (requests_of flights) id (flying.answered a.flight) a.at refl

  still_ready : AreReady (at_in s.tree) (flights_in (requests_of flights))
  still_ready = fewer_ready (requests_of s.flights) (requests_of flights) fewer (at_in s.tree) kept.ready

  -- the request keeps its pins and is promised nothing more
  pub answer_kept : IsKept (record s { flights = flights })
  answer_kept = record {
    law = subst (λ (keeps : ℕ → Bool). IsUpheld (at_in s.tree) s.ledger.made keeps) (sym (kept_same s.flights flights s.files s.files a.pinned refl)) kept.law;
    flying = law;
    held = fewer_held (requests_of s.flights) (requests_of flights) fewer (at_in s.tree) kept.held;
    ready = still_ready;
    provided = fewer_provided (requests_of s.flights) (requests_of flights) fewer kept.provided;
    few = few_with s.limits (requests_of s.flights) (requests_of flights) id (flying.answered a.flight) a.at kept.few (λ f. let few = kept.few f id a.flight a.here in let none = none_dropped a.flight.pins.numbers in omega (arith, few, none));
    reserved = record {
      nodes = omega (arith, a.nodes, kept.reserved.nodes);
      births = omega (arith, a.nodes, kept.reserved.births);
      postings = λ b. omega (arith, a.postings, kept.reserved.postings b);
      whole = kept.reserved.whole;
      files = omega (arith, a.files, kept.reserved.files);
    };
    limited = record {
      nodes = omega (arith, a.nodes, kept.limited.nodes);
      postings = λ b. omega (arith, a.postings, kept.limited.postings b);
      begun_within = λ f. omega (arith, a.postings, kept.limited.begun_within f);
      entries = omega (arith, a.postings, kept.limited.entries);
      counted = kept.limited.counted;
      births = kept.limited.births;
      begun = kept.limited.begun;
      flights = omega (arith, a.many, kept.limited.flights);
      files = omega (arith, a.files, kept.limited.files);
      handles = omega (arith, a.files, kept.limited.handles);
      node_limit = kept.limited.node_limit;
      posting_limit = kept.limited.posting_limit;
      short = kept.limited.short;
    };
    counts = kept.counts;
    filed = kept.filed;
    files = kept.files;
  }

  pub here_now : (requests_of flights).at id ≡ Some (flying.answered a.flight)
  here_now = ap (λ (at : Recordeds). at id) a.at ∙ cond-true (id == id) (Some (flying.answered a.flight)) ((requests_of s.flights).at id) (eq-eqb id id refl)

  was_at_work : IsAtWork (flights_in (requests_of s.flights)) id (flight_of a.flight) (work_of work)
  was_at_work = at_work (requests_of s.flights) id a.flight work a.here a.working

  pub was_ready : IsReady (at_in s.tree) (flight_of a.flight) (work_of work)
  was_ready = kept.ready id (flight_of a.flight) (work_of work) was_at_work

  -- no other request conflicts with what it held
  pub clear : HoldsUp (flights_in (requests_of flights)) work.held → ⊥
  clear up =
      let was = fewer_at_work (requests_of s.flights) (requests_of flights) fewer up.id up.flight up.work up.here in
      let it = recorded_at (requests_of flights) up.id up.flight up.work up.here in
      let other : up.id ≡ id → ⊥ = λ e.
      let same : it.flight ≡ flying.answered a.flight = same_Some it.flight (flying.answered a.flight) (sym it.here ∙ (ap (requests_of flights).at e ∙ here_now)) in
      let bad : recorded.Working it.work_record ≡ recorded.Answered (length a.flight.pins.numbers) None = sym it.working ∙ ap (λ (f : Recorded). f.stage) same in
      cc in
      kept.held.apart up.id id up.flight (flight_of a.flight) up.work (work_of work) was was_at_work other up.conflict

  -- and what it was promised is available for its end
  abbrev pub ending : (s.limits.counts ≡ Free → flying.most_posted_by ((requests_of s.flights).at id) ≤ s.ledger.room) → IsEnding (record s { flights = flights }) id work
  ending room = record {
    flight = flying.answered a.flight;
    here = here_now;
    answered = refl;
    provided = kept.provided id a.flight work a.here a.working;
    ready = record {
      case = was_ready.case;
      footprint = was_ready.footprint;
      holds = was_ready.holds;
      pinned = was_ready.pinned;
      names = elim was_ready.names [ inl one ↦ inl one | inr all ↦ inr (λ k d within. let it = all k d within in record { number = it.number; named = it.named; pin = it.pin }) ];
      placed = was_ready.placed;
      below = was_ready.below;
    };
    clear = clear;
    room = record {
      nodes = omega (arith, a.nodes, kept.reserved.nodes);
      births = omega (arith, a.nodes, kept.reserved.births);
      postings = λ b. omega (arith, a.postings, kept.reserved.postings b);
      at_once = λ f. let enough = room f in let is = ap flying.most_posted_by a.here in let most = ap (λ (st : Recording). flying.most_posted st a.flight.pins.numbers) a.working in omega (arith, enough, is, most);
      nodes_within = omega (arith, a.nodes, kept.limited.nodes);
      postings_within = λ b. omega (arith, a.postings, kept.limited.postings b);
      entries = omega (arith, a.postings, kept.limited.entries);
      files = omega (arith, a.files, kept.reserved.files);
      files_within = omega (arith, a.files, kept.limited.files);
      handles = omega (arith, a.files, kept.limited.handles);
    };
    few = λ f. let few = kept.few f id a.flight a.here in let is = ap (λ (st : Recording). flying.most_posted st a.flight.pins.numbers) a.working in omega (arith, few, is);
  }

  -- the world in which it is answered
  mid_is : world_of (record s { flights = flights }) ≡ record (world_of s) { flights = with_entry (flights_in (requests_of s.flights)) id (Some (answered (flight_of a.flight) [] None)) }
  mid_is =
      let one : flight_of (flying.answered a.flight) ≡ answered (flight_of a.flight) [] None =
      ap (λ (ns : List ℕ). let f : RequestInFlight = record { unique = a.flight.unique; stage = Answered (length a.flight.pins.numbers) None; pins = ns } in f) (sym (append-nil a.flight.pins.numbers)) in
      ap (λ (fs : RequestsInFlight). let w : World = record (world_of s) { flights = fs } in w)
      (flights_with (requests_of s.flights) (requests_of flights) id (flying.answered a.flight) a.at ∙ ap (λ (f : RequestInFlight). with_entry (flights_in (requests_of s.flights)) id (Some f)) one)

  module _ (o : Outcome) (answer : Answer) (new : World) (e : Ends (world_of (record s { flights = flights })) id (flight_of (flying.answered a.flight)) (act_of (footprint_in work) o) (footprint_in work).entries answer new) where
    first : Ends (world_of s) id (flight_of a.flight) (act_of (footprint_in work) o) (footprint_in work).entries answer new
    first =
        let one : flight_of (flying.answered a.flight) ≡ answered (flight_of a.flight) [] None =
        ap (λ (ns : List ℕ). let f : RequestInFlight = record { unique = a.flight.unique; stage = Answered (length a.flight.pins.numbers) None; pins = ns } in f) (sym (append-nil a.flight.pins.numbers)) in
        ends_answered (world_of s) (world_of (record s { flights = flights })) new id (flight_of a.flight) (act_of (footprint_in work) o) (footprint_in work).entries answer mid_is
        (subst (λ (f : RequestInFlight). Ends (world_of (record s { flights = flights })) id f (act_of (footprint_in work) o) (footprint_in work).entries answer new) one e)

    found : (f : RequestInFlight) (w : Work) → IsAtWork (flights_in (requests_of s.flights)) id f w → Ends (world_of s) id f (act_of w.footprint o) w.footprint.entries answer new
    found f w at =
        let same : flight_of a.flight ≡ f = same_Some (flight_of a.flight) f (sym was_at_work.here ∙ at.here) in
        let stages : Working (work_of work) ≡ Working w = sym was_at_work.working ∙ (ap (λ (g : RequestInFlight). g.stage) same ∙ at.working) in
        let works : work_of work ≡ w = cc in
        subst (λ (v : Work). Ends (world_of s) id f (act_of v.footprint o) v.footprint.entries answer new) works
        (subst (λ (g : RequestInFlight). Ends (world_of s) id g (act_of (footprint_in work) o) (footprint_in work).entries answer new) same first)

    pub finishes_found : Finishes (world_of s) id o answer new
    finishes_found = record {
      lost = λ none. absurd (none (flight_of a.flight) (work_of work) was_at_work);
      found = found;
    }
