-- The result of ending a request.
use Rattle.std.proofs.Common.{ℕ, ◌-◌, ◌≡◌, ◌==◌, Bool, true, false, List, [], ◌∷◌, drop, Option, None, sym, ap, ◌∙◌, subst, ◌⊎◌, inl, inr, arith, ◌+◌, ◌≤◌, length, refl}
use Rattle.std.specs.Prelude.{option_map}
use Rattle.std.specs.List.{list_any}
use Rattle.std.proofs.lemmas.Option.{same_Some}
use Rattle.std.proofs.lemmas.Bool.{or_cases, or_left, true≢false, eqb-true}
use Rattle.ledger.specs.Periods.{Periods}
use Rattle.ledger.specs.Postings.{Postings}
use Rattle.tree.specs.Places.{Lookup, Nodes, at_in, IsPathOf}
use Rattle.table_requests.specs.declared.data.EndedRequest.{EndedRequest}
use Rattle.table_requests.specs.declared.data.RequestInFlight.{RequestInFlight as Recorded}
use Rattle.table_requests.specs.declared.data.Stage.{Stage as Recording}
use Rattle.table_requests.specs.declared.data.Stage.TheVariants as recorded
use Rattle.table_requests.specs.Roomy.{Pinned}
use Rattle.table_files.specs.OpenEntry.{Filing, files_of}
use Rattle.table_files.specs.Handles.{Files}
use Rattle.table_requests.specs.declared.data.Given.{Given}
use Rattle.table_requests.specs.RequestMaps.{RequestMaps, AreLawfulRequests, Goes, HasNoneAnswered, is_working, most_posted, most_posted_by}
use Rattle.table_requests.specs.Listed.{InFlight, requests_of}
use Rattle.table_steps.specs.Keeping.{kept_by}
use Rattle.table_steps.specs.declared.state.State.{State}
use Rattle.table_steps.specs.Answers.{Answer, Settlement, entries_in}
use Rattle.table_steps.specs.Entries.{TakesAllBack, untaken_of}
use Rattle.table_steps.specs.Kept.{IsKept, flight_of, flights_in, stage_of, world_of}
use Rattle.table_steps.specs.Steps.{EndsFor, IsAnswered, Settles, files_without, untaken_file}
use Rattle.table_steps.specs.Swept.{IsSwept}
use Rattle.table_steps.specs.Sweeping.{IsAmong, IsClosed, IsPruned, IsSameRest, IsNearly, IsTakenBack}
use Rattle.table_steps.specs.Upheld.{IsBooked}
use Rattle.table_steps.specs.World.{AreReady, Answered, RequestInFlight, RequestsInFlight, Stage, Working, World, with_entry}
use Rattle.table_steps.proofs.Booked.{IsBooked-pins}
use Rattle.table_steps.proofs.Filing.{cases_kept, keeps_open, keeps_pinned, kept_fewer, kept_more, nodes_back, nodes_fewer, nodes_swept}
use Rattle.table_steps.proofs.Kept.{KeepsAllPaths, held_ready, paths_written, ready_swept, ready_where}
use Rattle.table_steps.proofs.Lawful.{booked_of, lawful_swept}
use Rattle.table_steps.proofs.Reasons.{HaveReasons-none, HaveReasons-some, HaveReasons-unpin, IsSwept-trans, IsSameRest-trans}
use Rattle.table_steps.proofs.Viewed.{IsFewer, are_kept, fewer_held, fewer_provided, fewer_ready, fewer_without, flights_without, found_in}
use Rattle.table_steps.proofs.Few.{few_without}
use Rattle.std.proofs.lemmas.List.{length-drop}
use Rattle.terms.specs.declared.limits.Counts.{Counts}
use Rattle.terms.specs.declared.limits.Counts.TheVariants.{Bounded, Free}

-- what a stage says about an answered request
abbrev before_in : Stage → ℕ
before_in (Working work) = 0
before_in (Answered before opened) = before

abbrev opened_in : Stage → Option ℕ
opened_in (Working work) = None
opened_in (Answered before opened) = opened

-- an element of a list is a member of it, whatever comes before
among_any : (ms : List ℕ) (n : ℕ) → list_any (λ m. m == n) ms ≡ true → IsAmong n ms
among_any [] n h = absurd (true≢false (sym h))
among_any (m ∷ ms) n h = elim (or_cases (m == n) (list_any (λ a. a == n) ms) h) [
  | inl e ↦ inl (sym (eqb-true m n e))
  | inr later ↦ inr (among_any ms n later)
]

-- taking back entries moves no node
paths_back : (ns : List ℕ) (at new : Lookup) (ps qs : Periods) → TakesAllBack at ps ns new qs → KeepsAllPaths at new
paths_back [] at new ps qs h n q leads = subst (λ a. IsPathOf a n q) (sym h.0) leads
paths_back (m ∷ ns) at new ps qs (mid, ms, inl back, rest) n q leads =
    paths_back ns mid new ms qs rest n q (subst (λ a. IsPathOf a n q) (sym back.nodes) (paths_written at m back.node (back.node.count - 1) back.here n q leads))
paths_back (m ∷ ns) at new ps qs (mid, ms, inr none, rest) n q leads = paths_back ns mid new ms qs rest n q (subst (λ a. IsPathOf a n q) (sym none.nodes) leads)

cases_counts : (counts : Counts) → (counts ≡ Bounded) ⊎ (counts ≡ Free)
cases_counts Bounded = inl refl
cases_counts Free = inr refl

untaken_within : (taken : Bool) (given : List ℕ) → length (untaken_of taken given) ≤ length given
untaken_within true given = omega arith
untaken_within false given = omega arith

module _ (s : State) (kept : IsKept s) (flights : InFlight) (id : ℕ) (ended : EndedRequest) (goes : Goes (requests_of s.flights) id ended (requests_of flights)) (law : AreLawfulRequests (requests_of flights)) where
  abbrev pins : List ℕ
  pins = ended.pins.numbers

  -- the pins that are removed may have been the last reasons of their nodes
  pub taken_nearly : IsNearly (at_in s.tree) s.ledger.made (kept_by flights s.files) ended.pins.numbers
  taken_nearly =
      let old = kept_by s.flights s.files in
      let new = kept_by flights s.files in
      let pinned = (requests_of flights).pinned in
      let was : (m : ℕ) → new m ≡ true → old m ≡ true = kept_more flights s.flights s.files (λ m h. goes.pinned m ∙ or_left (pinned m) (list_any (λ a. a == m) pins) h) in
      let gone : (m : ℕ) → old m ≡ true → (new m ≡ true) ⊎ IsAmong m pins = λ m h. elim (cases_kept s.flights s.files m h) [
        | inl pin ↦ elim (or_cases (pinned m) (list_any (λ a. a == m) pins) (sym (goes.pinned m) ∙ pin)) [
          | inl still ↦ inl (keeps_pinned flights s.files m still)
          | inr left ↦ inr (among_any pins m left)
        ]
        | inr opened ↦ inl (keeps_open flights s.files m opened)
      ] in
      record {
        booked = IsBooked-pins (at_in s.tree) s.ledger.made old new (λ m h. kept.law.booked.alive m (was m h)) (booked_of (at_in s.tree) s.ledger.made old kept.law);
        pruned = record {
          tree = kept.law.tree;
          reasons = HaveReasons-unpin (at_in s.tree) old new [] pins gone (λ m h. absurd h) (HaveReasons-some (at_in s.tree) old [] kept.law.reasons);
        };
      }

  -- there is room for what is taken back: for all counts, or for what the request gave
  pub settle_room : (from : ℕ) (taken : Bool) → drop from pins ≡ untaken_of taken (drop ended.before pins) → (s.limits.counts ≡ Free → most_posted_by ((requests_of s.flights).at id) ≤ s.ledger.room)
      → (s.tree.counts ≤ s.ledger.room) ⊎ (length pins ≤ s.ledger.room + from)
  settle_room from taken some room = elim (cases_counts s.limits.counts) [
    | inl bounded ↦ inl (omega (arith, kept.reserved.postings bounded))
    | inr free ↦
        let enough = room free in
        let is : most_posted_by ((requests_of s.flights).at id) ≡ most_posted goes.flight.stage goes.flight.pins.numbers = ap most_posted_by goes.here in
        let most : most_posted goes.flight.stage goes.flight.pins.numbers ≡ length (drop ended.before goes.flight.pins.numbers) = ap (λ (st : Recording). most_posted st goes.flight.pins.numbers) goes.answered in
        let same : length (drop ended.before pins) ≡ length (drop ended.before goes.flight.pins.numbers) = ap (λ (p : Pinned). length (drop ended.before p.numbers)) goes.pins in
        let left : length pins - from ≡ length (untaken_of taken (drop ended.before pins)) = sym (length-drop from pins) ∙ ap length some in
        inr (omega (arith, enough, is, most, same, left, untaken_within taken (drop ended.before pins)))
  ]

  fewer : IsFewer (requests_of s.flights) (requests_of flights)
  fewer = fewer_without (requests_of s.flights) (requests_of flights) id goes.at

  module _ (given : List ℕ) (tree one new : Nodes) (ledger : Postings) (files : Filing) (handle : Option ℕ) (back : TakesAllBack (at_in s.tree) s.ledger.made given (at_in tree) ledger.made)
      (nearly : IsNearly (at_in tree) ledger.made (kept_by flights s.files) ended.pins.numbers) (rest : IsTakenBack s.tree s.ledger tree ledger)
      (closed : IsClosed (files_of s.files) handle (files_of files)) (swept_closed : IsSwept (kept_by flights files) (at_in tree) (at_in one)) (rest_closed : IsSameRest tree one)
      (swept_pins : IsSwept (kept_by flights files) (at_in one) (at_in new)) (rest_pins : IsSameRest one new)
      (pruned : IsPruned (at_in new) (kept_by flights files) []) (counts : ℕ) where
    now_kept : (n : ℕ) → kept_by flights files n ≡ true → kept_by flights s.files n ≡ true
    now_kept = kept_fewer flights s.files files closed.opened

    booked : IsBooked (at_in tree) ledger.made (kept_by flights files)
    booked = IsBooked-pins (at_in tree) ledger.made (kept_by flights s.files) (kept_by flights files) (λ n h. nearly.booked.alive n (now_kept n h)) nearly.booked

    swept : IsSwept (kept_by flights files) (at_in tree) (at_in new)
    swept = IsSwept-trans (kept_by flights files) (at_in tree) (at_in one) (at_in new) swept_closed swept_pins

    still_ready : AreReady (at_in new) (flights_in (requests_of flights))
    still_ready =
        let all = requests_of s.flights in
        ready_swept (at_in tree) (at_in new) flights files law closed.filed pruned.tree swept
        (fewer_ready all (requests_of flights) fewer (at_in tree)
        (ready_where (at_in s.tree) (at_in tree) (flights_in all) nearly.pruned.tree (paths_back given (at_in s.tree) (at_in tree) s.ledger.made ledger.made back) kept.ready))

    pub settle_kept : counts ≡ tree.counts → IsKept (record s { tree = new; ledger = ledger; flights = flights; counts = counts; files = files })
    settle_kept same =
        let all = requests_of s.flights in
        let after = IsSameRest-trans tree one new rest_closed rest_pins in
        record {
          law = lawful_swept (at_in tree) (at_in new) ledger.made (kept_by flights files) booked swept pruned;
          flying = law;
          held = held_ready (at_in s.tree) (at_in new) (flights_in (requests_of flights)) still_ready (fewer_held all (requests_of flights) fewer (at_in s.tree) kept.held);
          ready = still_ready;
          provided = fewer_provided all (requests_of flights) fewer kept.provided;
          few = few_without s.limits all (requests_of flights) id goes.at kept.few;
          reserved = record {
            nodes = omega (arith, kept.reserved.nodes, goes.nodes, rest.room, after.room);
            births = omega (arith, kept.reserved.births, goes.nodes, rest.places);
            postings = λ b. omega (arith, kept.reserved.postings b, goes.postings, rest.posting_room, after.counts);
            whole = λ f. omega (arith, kept.reserved.whole f, rest.whole);
            files = omega (arith, kept.reserved.files, goes.files, closed.room);
          };
          limited = record {
            nodes = omega (arith, kept.limited.nodes, goes.nodes, rest.living, after.fewer);
            postings = λ b. omega (arith, kept.limited.postings b, goes.postings, rest.postings, after.counts);
            begun_within = λ f. omega (arith, goes.postings, kept.limited.begun_within f);
            entries = omega (arith, kept.limited.entries, goes.postings, rest.entries);
            counted = omega (arith, kept.limited.counted, rest.entries, rest.postings, rest.grows, after.counts);
            births = omega (arith, kept.limited.births, rest.entries, rest.births);
            begun = omega (arith, kept.limited.begun, rest.living, rest.grows, after.fewer);
            flights = omega (arith, kept.limited.flights, goes.many);
            files = omega (arith, kept.limited.files, goes.files, closed.fewer);
            handles = omega (arith, kept.limited.handles, goes.files, closed.last);
            node_limit = after.limit ∙ (rest.limit ∙ kept.limited.node_limit);
            posting_limit = rest.posting_limit ∙ kept.limited.posting_limit;
            short = kept.limited.short;
          };
          counts = same ∙ sym after.counts;
          filed = closed.filed;
          files = nodes_swept flights files closed.filed (at_in tree) (at_in new) swept
              (nodes_fewer (at_in tree) handle (files_of s.files).at (files_of files).at closed.at (nodes_back (files_of s.files).at given (at_in s.tree) (at_in tree) s.ledger.made ledger.made back kept.files));
        }

    abbrev is_answered : IsAnswered (flights_in (requests_of s.flights)) id
    is_answered = record {
      flight = flight_of goes.flight;
      here = ap (λ (o : Option Recorded). option_map flight_of o) goes.here;
      before = ended.before;
      opened = ended.opened;
      ended = ap stage_of goes.answered;
    }

    -- the record says what was given and opened
    recorded_given : (a : IsAnswered (flights_in (requests_of s.flights)) id) → (drop ended.before pins ≡ drop a.before a.flight.pins) × (ended.opened ≡ a.opened)
    recorded_given a =
        let same : flight_of goes.flight ≡ a.flight = same_Some (flight_of goes.flight) a.flight (sym is_answered.here ∙ a.here) in
        let stages : Answered ended.before ended.opened ≡ Answered a.before a.opened = sym is_answered.ended ∙ (ap (λ (f : RequestInFlight). f.stage) same ∙ a.ended) in
        let before : ended.before ≡ a.before = ap before_in stages in
        let opened : ended.opened ≡ a.opened = ap opened_in stages in
        let numbers : pins ≡ a.flight.pins = ap (λ (p : Pinned). p.numbers) goes.pins ∙ ap (λ (f : RequestInFlight). f.pins) same in
        (ap (λ (n : ℕ). drop n pins) before ∙ ap (λ (ns : List ℕ). drop a.before ns) numbers, opened)

    ends_for : (taken : Bool) → given ≡ untaken_of taken (drop ended.before pins) → handle ≡ untaken_file taken ended.opened → (a : IsAnswered (flights_in (requests_of s.flights)) id)
        → EndsFor (world_of s) id a taken (world_of (record s { tree = new; ledger = ledger; flights = flights; counts = counts; files = files }))
    ends_for taken some shut a =
        let gone = with_entry (flights_in (requests_of s.flights)) id None in
        let it = recorded_given a in
        record {
          mid = at_in tree;
          back = subst (λ (ns : List ℕ). TakesAllBack (at_in s.tree) s.ledger.made ns (at_in tree) ledger.made) (some ∙ ap (λ (ns : List ℕ). untaken_of taken ns) it.0) back;
          sweeps = record { kept = kept_by flights files; keeps = are_kept flights files law closed.filed; swept = swept; reasons = HaveReasons-none (at_in new) (kept_by flights files) pruned.reasons };
          new_is = ap (λ (fs : RequestsInFlight). let w : World = record (world_of s) { at = at_in new; postings = ledger.made; flights = fs; files = (files_of files).at; last_handle = (files_of files).last } in w) (flights_without (requests_of s.flights) (requests_of flights) id goes.at)
              ∙ (ap (λ (n : ℕ). let w : World = record (world_of s) { at = at_in new; postings = ledger.made; flights = gone; files = (files_of files).at; last_handle = n } in w) closed.last
              ∙ ap (λ (fs : Files). let w : World = record (world_of s) { at = at_in new; postings = ledger.made; flights = gone; files = fs } in w) (closed.at ∙ ap (λ (h : Option ℕ). files_without h (files_of s.files).at) (shut ∙ ap (λ (h : Option ℕ). untaken_file taken h) it.1)));
        }

    pub Settles-found : (all : List (Option Given)) (taken lost : Bool) (said : Option ℕ) (settled : Settlement) → given ≡ untaken_of taken (drop ended.before ended.pins.numbers) → handle ≡ untaken_file taken ended.opened → lost ≡ false → settled ≡ record { id = id; entries = entries_in all; taken = taken }
        → Settles (world_of s) (record { id = id; given = all; lost = lost; opened = said }) taken settled (world_of (record s { tree = new; ledger = ledger; flights = flights; counts = counts; files = files }))
    Settles-found all taken lost said settled some shut found is = record {
      settled_is = is;
      lost = λ e. absurd (true≢false (sym e ∙ found));
      unknown = λ none. absurd (none is_answered);
      found = λ _ a. ends_for taken some shut a;
    }

not_working : (st : Recording) (before : ℕ) (opened : Option ℕ) → is_working st ≡ true → stage_of st ≡ Answered before opened → ⊥
not_working (recorded.Working work) before opened working ended = absurd (cc)
not_working (recorded.Answered since file) before opened working ended = absurd (true≢false (sym working))

-- no request with that id was answered
none_answered : (all : RequestMaps) (id : ℕ) → HasNoneAnswered all.at id → IsAnswered (flights_in all) id → ⊥
none_answered all id none is =
    let it = found_in (all.at id) is.flight is.here in
    not_working it.0.stage is.before is.opened (none it.0 it.1) (ap (λ (f : RequestInFlight). f.stage) it.2 ∙ is.ended)

pub Settles-none : (s : State) (flights : InFlight) (answer : Answer) (taken : Bool) (settled : Settlement) → settled ≡ record { id = answer.id; entries = entries_in answer.given; taken = taken } → HasNoneAnswered (requests_of s.flights).at answer.id → flights ≡ s.flights
    → Settles (world_of s) answer taken settled (world_of (record s { flights = flights }))
Settles-none s flights answer taken settled is none same =
    let e : world_of (record s { flights = flights }) ≡ world_of s = ap (λ (f : InFlight). world_of (record s { flights = f })) same in
    record {
      settled_is = is;
      lost = λ _. e;
      unknown = λ _. e;
      found = λ _ answered. absurd (none_answered (requests_of s.flights) answer.id none answered);
    }
