-- The result of beginning a request.
use Rattle.std.proofs.Common.{ℕ, ◌+◌, ◌%◌, ◌^◌, ◌==◌, if◌then◌else◌, not, false, [], ◌≡◌, ◌||◌, ◌⊎◌, Bool, true, reverse, All, Contains, List, Option, Some, None, length, refl, sym, ap, ◌∙◌, subst, inl, inr, arith}
use Rattle.std.specs.Prelude.{option_map}
use Rattle.std.proofs.lemmas.Bool.{or_cases, or_left}
use Rattle.std.proofs.lemmas.List.{length-map}
use Rattle.paths.specs.Prefixes.{Name}
use Rattle.holds.specs.declared.held.Held.{Held}
use Rattle.table_files.specs.OpenEntry.{files_of}
use Rattle.table_files.specs.Handles.{Files, Opened}
use Rattle.table_requests.specs.declared.data.RequestInFlight.{RequestInFlight as Recorded}
use Rattle.table_requests.specs.declared.data.Stage.TheVariants as recorded
use Rattle.table_requests.specs.declared.data.Case.{Case}
use Rattle.table_requests.specs.declared.data.Case.TheVariants as cases
use Rattle.table_requests.specs.declared.data.Want.{Want}
use Rattle.table_requests.specs.declared.data.Want.TheVariants as wants
use Rattle.table_requests.specs.declared.data.Work.{Work as RecordedWork}
use Rattle.table_requests.specs.RequestMaps as flying
use Rattle.table_requests.specs.RequestMaps.{Adds, RequestMaps, AreLawfulRequests, nodes_promised, postings_promised, pins_number}
use Rattle.table_requests.specs.Listed.{InFlight, requests_of}
use Rattle.table_requests.proofs.ById.{Adds_found}
use Rattle.table_law.specs.Law.{AreAlive, IsGivenPath}
use Rattle.table_steps.specs.Upheld.{IsUpheld}
use Rattle.ledger.specs.Sums.{totals_over}
use Rattle.ledger.specs.Periods.{Periods}
use Rattle.tree.specs.Places.{Lookup, Nodes, at_in, IsAlive, IsTree}
use Rattle.tree.proofs.Climbing.{climbs_alive}
use Rattle.table_footprints.specs.declared.data.NewRequest.{NewRequest}
use Rattle.table_footprints.specs.Asked.{Holds, IsPin, IsThere}
use Rattle.table_footprints.specs.Cases.{IsClosingCase, IsCase, IsEntryCase, Seen}
use Rattle.table_footprints.specs.Laws.{IsGrounded}
use Rattle.table_footprints.specs.NewRequests.{IsNewRequest, IsProvided, footprint_in}
use Rattle.table_footprints.specs.Footprints.{AtName, AtNode, Footprint, Location, closed_change, hidden_in, is_same, names_under, footprint_of}
use Rattle.table_footprints.proofs.Members.{in_any}
use Rattle.table_footprints.proofs.FootprintLemmas.{are_grounded}
use Rattle.terms.specs.declared.limits.Limits.{Limits}
use Rattle.table_steps.specs.declared.state.State.{State}
use Rattle.table_steps.specs.Beginning.{Allows, ClosesFile, IsRoomForOne, IsSameButRoom}
use Rattle.table_steps.specs.Keeping.{kept_by}
use Rattle.table_steps.specs.Kept.{AreProvided, IsKept, IsLimited, flight_of, flights_in, work_of, world_of}
use Rattle.table_steps.specs.Steps.{GoesOn, HoldsUp, Leaves, MayBegin, files_without, is_last, may_hide}
use Rattle.table_steps.specs.World.{AreHeld, AreReady, RequestInFlight, RequestsInFlight, IsAtWork, IsReady, Work, World, seen_in, with_entry}
use Rattle.table_steps.proofs.Apart.{AreApart, at_work_more, apart_more, held_up_recorded, known_held}
use Rattle.table_steps.proofs.Beginning.{ready_begun}
use Rattle.table_steps.proofs.Booked.{IsBooked-pins}
use Rattle.table_steps.proofs.Filing.{cases_kept, keeps_open, keeps_pinned, kept_more}
use Rattle.table_steps.proofs.Staying.{given_path}
use Rattle.table_steps.proofs.Viewed.{flights_with, in_any_of}
use Rattle.table_steps.proofs.Few.{few_with}

-- ---- more pins

-- more numbers are pinned, all with living nodes
lawful_pins : (at : Lookup) (ps : Periods) (old new : ℕ → Bool) → IsUpheld at ps old → ((n : ℕ) → old n ≡ true → new n ≡ true) → AreAlive at new → IsUpheld at ps new
lawful_pins at ps old new law more alive = record {
  tree = law.tree;
  booked = IsBooked-pins at ps old new alive law.booked;
  reasons = λ n x here other. elim (law.reasons n x here other) [
    | inl count ↦ inl count
    | inr (inl mark) ↦ inr (inl mark)
    | inr (inr (inl pin)) ↦ inr (inr (inl (more n pin)))
    | inr (inr (inr child)) ↦ inr (inr (inr child))
  ];
}

module _ (at : Lookup) (tree : IsTree at) (d : Footprint) (held : Held) (footprint : IsGrounded d) (holds : Holds at d held) (f : RequestInFlight) (pinned : (n : ℕ) → Contains d.given n → Contains f.pins n) where
  given_alive : (n : ℕ) → Contains d.given n → IsAlive at n
  given_alive n given =
      let path = given_path at at tree d held footprint holds f pinned (λ m pin q prefixes leads. leads) n given in
      climbs_alive at tree.rooted (reverse path.0) n path.1

  there_alive : (l : Location) → Contains d.paths l → (n : ℕ) → IsThere at l n → IsAlive at n
  there_alive (AtNode m) asked n e = subst (λ k. IsAlive at k) (sym e) (given_alive m (footprint.paths (AtNode m) asked))
  there_alive (AtName parent name) asked n named = (named.0, named.1)

  -- what is pinned exists
  pub pin_alive : (n : ℕ) → IsPin at d n → IsAlive at n
  pin_alive n (inl given) = given_alive n given
  pin_alive n (inr any) = let it = in_any (λ l. IsThere at l n) d.paths any in there_alive it.0 it.1 n it.2

-- ---- recording a new request

-- the names that are reserved for a request are the candidates of its footprint
names_fit : (parent : ℕ) (names : List Name) (kept : List Name) → kept ≡ names → not (length kept == 0) ≡ not (length (names_under parent names) == 0)
names_fit parent names kept is = ap (λ (n : ℕ). not (n == 0)) (ap {B = ℕ} length is ∙ sym (length-map names (λ (x : Name). AtName parent x)))

none_fit : (kept : List Name) → kept ≡ [] → not (length kept == 0) ≡ false
none_fit kept is = ap (λ (n : ℕ). not (n == 0)) (ap {B = ℕ} length is)

entry_fits : (at : Lookup) (parent : ℕ) (name : Name) (c : Case) → IsEntryCase at parent name c → hidden_in c ≡ []
entry_fits at parent name cases.Plain fits = refl
entry_fits at parent name cases.Absent fits = refl
entry_fits at parent name cases.Pathless fits = absurd fits
entry_fits at parent name cases.Last fits = absurd fits
entry_fits at parent name (cases.Hiding n k) fits = absurd fits

closing_fits : (at : Lookup) (files : Files) (number : ℕ) (c : Case) → IsClosingCase at files number c → hidden_in c ≡ []
closing_fits at files number cases.Plain fits = refl
closing_fits at files number cases.Absent fits = absurd fits
closing_fits at files number cases.Pathless fits = refl
closing_fits at files number cases.Last fits = refl
closing_fits at files number (cases.Hiding n k) fits = absurd fits

pub hides_so : (seen : Seen) (want : Want) (c : Case) → IsCase seen want c → (kept : List Name) → kept ≡ hidden_in c → not (length kept == 0) ≡ may_hide (footprint_of want c)
hides_so seen (wants.Node number handle) c fits kept is = none_fit kept (is ∙ ap (λ (k : Case). hidden_in k) fits)
hides_so seen (wants.Name parent name) c fits kept is = none_fit kept (is ∙ entry_fits seen.at parent name c fits)
hides_so seen (wants.Remove parent name may) c fits kept is = names_fit parent (hidden_in c) kept is
hides_so seen (wants.Move parent name new_parent new_name keep) c fits kept is = names_fit new_parent (hidden_in c) kept is
hides_so seen (wants.Exchange parent name new_parent new_name) c fits kept is = none_fit kept (is ∙ ap (λ (k : Case). hidden_in k) fits)
hides_so seen (wants.Page folder names) c fits kept is = none_fit kept (is ∙ ap (λ (k : Case). hidden_in k) fits)
hides_so seen (wants.Open number access) c fits kept is = none_fit kept (is ∙ ap (λ (k : Case). hidden_in k) fits)
hides_so seen (wants.Create parent name access) c fits kept is = none_fit kept (is ∙ entry_fits seen.at parent name c fits)
hides_so seen (wants.Release number fh) c fits kept is = none_fit kept (is ∙ closing_fits seen.at seen.files number c fits)
hides_so seen (wants.Link number parent name) c fits kept is = none_fit kept (is ∙ entry_fits seen.at parent name c fits)

closing_stays : (number : ℕ) (c : Case) → false ≡ is_same (closed_change number c)
closing_stays number cases.Plain = refl
closing_stays number cases.Absent = refl
closing_stays number cases.Pathless = refl
closing_stays number cases.Last = refl
closing_stays number (cases.Hiding n k) = refl

-- whether a name is moved to itself does not depend on the case
pub same_case : (want : Want) (c : Case) → is_same (footprint_of want cases.Plain).done ≡ is_same (footprint_of want c).done
same_case (wants.Node number handle) c = refl
same_case (wants.Name parent name) c = refl
same_case (wants.Remove parent name may_hide) c = refl
same_case (wants.Move parent name new_parent new_name keep) c = refl
same_case (wants.Exchange parent name new_parent new_name) c = refl
same_case (wants.Page folder names) c = refl
same_case (wants.Open number access) c = refl
same_case (wants.Create parent name access) c = refl
same_case (wants.Release number fh) c = closing_stays number c
same_case (wants.Link number parent name) c = refl

-- nor does the handle that is closed
pub same_closes : (want : Want) (c : Case) → (footprint_of want cases.Plain).closes ≡ (footprint_of want c).closes
same_closes (wants.Node number handle) c = refl
same_closes (wants.Name parent name) c = refl
same_closes (wants.Remove parent name may_hide) c = refl
same_closes (wants.Move parent name new_parent new_name keep) c = refl
same_closes (wants.Exchange parent name new_parent new_name) c = refl
same_closes (wants.Page folder names) c = refl
same_closes (wants.Open number access) c = refl
same_closes (wants.Create parent name access) c = refl
same_closes (wants.Release number fh) c = refl
same_closes (wants.Link number parent name) c = refl

same_record : (v w : RecordedWork) → recorded.Working v ≡ recorded.Working w → v ≡ w
same_record v w e = cc

module _ (s mid : State) (unique id : ℕ) (new_request : NewRequest) (is : IsNewRequest (seen_in (world_of s)) new_request.work.want new_request) (same : IsSameButRoom s mid) (flights : InFlight)
    (adds : Adds (requests_of mid.flights) (record { id = id; unique = unique; stage = recorded.Working new_request.work; pins = new_request.pins }) (requests_of flights)) where
  abbrev pub begun : Recorded
  begun = record { id = id; unique = unique; stage = recorded.Working new_request.work; pins = new_request.pins }

  pub flights_same : flights_in (requests_of mid.flights) ≡ flights_in (requests_of s.flights)
  flights_same = ap (λ (w : World). w.flights) same.world

  pub flights_new : flights_in (requests_of flights) ≡ with_entry (flights_in (requests_of mid.flights)) id (Some (flight_of begun))
  flights_new = flights_with (requests_of mid.flights) (requests_of flights) id begun adds.at

  pub mid_is : (counter : ℕ) → world_of (record mid { flights = flights; counter = counter }) ≡ record (world_of s) { flights = with_entry (flights_in (requests_of s.flights)) id (Some (flight_of begun)); counter = counter }
  mid_is counter = ap (λ (w : World). let v : World = record w { flights = flights_in (requests_of flights); counter = counter } in v) same.world
      ∙ ap (λ (fs : RequestsInFlight). let v : World = record (world_of s) { flights = fs; counter = counter } in v) (flights_new ∙ ap (λ (fs : RequestsInFlight). with_entry fs id (Some (flight_of begun))) flights_same)

  abbrev pub goes_on : (same_path hide last : Bool) (counter : ℕ) → (requests_of mid.flights).at id ≡ None → same_path ≡ is_same (footprint_of new_request.work.want cases.Plain).done
      → hide ≡ may_hide (footprint_in new_request.work) → last ≡ is_last (footprint_in new_request.work) → counter ≡ (if hide then (s.counter + 10) % 2 ^ 32 else s.counter)
      → (closes : Option ℕ) → closes ≡ (footprint_of new_request.work.want cases.Plain).closes → (new : World) → ClosesFile (world_of (record mid { flights = flights; counter = counter })) closes new
      → GoesOn (world_of s) unique new_request.work.want (footprint_in new_request.work) (record { id = id; paths = new_request.paths; same = same_path; hide = hide; last = last }) new
  goes_on same_path hide last counter fresh same_is hide_is last_is counter_is closes closes_is new closed =
      let shut : closes ≡ (footprint_in new_request.work).closes = closes_is ∙ same_closes new_request.work.want new_request.work.case in
      let flying : RequestsInFlight = with_entry (flights_in (requests_of s.flights)) id (Some (flight_of begun)) in
      record {
        fresh = ap (λ (fs : RequestsInFlight). fs id) (sym flights_same) ∙ ap (λ (o : Option Recorded). option_map flight_of o) fresh;
        ticket_is = record { paths = is.paths; same = same_is ∙ same_case new_request.work.want new_request.work.case; hide = hide_is; last = last_is };
        held = new_request.work.held;
        holds = is.holds;
        pins = new_request.pins.numbers;
        pinned = is.pins;
        leaves = subst (λ (h : Option ℕ). Leaves (at_in s.tree) h new) shut (subst (λ (at : Lookup). Leaves at closes new) (ap (λ (w : World). w.at) (mid_is counter)) closed.leaves);
        new_is = closed.new_is ∙ (ap (λ (w : World). record w { at = new.at; files = files_without closes w.files }) (mid_is counter)
            ∙ (ap (λ (h : Option ℕ). let v : World = record (world_of s) { at = new.at; flights = flying; files = files_without h (files_of s.files).at; counter = counter } in v) shut
            ∙ ap (λ (k : ℕ). let v : World = record (world_of s) { at = new.at; flights = flying; files = files_without (footprint_in new_request.work).closes (files_of s.files).at; counter = k } in v)
            (counter_is ∙ ap (λ (b : Bool). if b then (s.counter + 10) % 2 ^ 32 else s.counter) hide_is)));
      }

  module _ (counter : ℕ) (fresh : (requests_of mid.flights).at id ≡ None) (kept : IsKept mid) (all_flying : AreLawfulRequests (requests_of flights))
      (free : flying.HoldsUp (requests_of s.flights).at new_request.work.held → ⊥) (may : MayBegin (world_of s) (footprint_in new_request.work)) (allows : Allows s new_request.work.promise) (room : IsRoomForOne mid new_request.work.promise) where
    at_same : at_in mid.tree ≡ at_in s.tree
    at_same = ap (λ (w : World). w.at) same.world

    tree_law : IsTree (at_in s.tree)
    tree_law = subst (λ (at : Lookup). IsTree at) at_same kept.law.tree

    given_pinned : (n : ℕ) → Contains (footprint_in new_request.work).given n → Contains new_request.pins.numbers n
    given_pinned n given = (is.pins n).1 (inl given)

    its_row : IsGrounded (footprint_in new_request.work)
    its_row = are_grounded new_request.work.want new_request.work.case

    -- ---- the new request

    new_ready : IsReady (at_in mid.tree) (flight_of begun) (work_of new_request.work)
    new_ready = subst (λ (at : Lookup). IsReady at (flight_of begun) (work_of new_request.work)) (sym at_same)
        (ready_begun (world_of s) unique new_request.work.want (footprint_in new_request.work) (record { case = new_request.work.case; fits = is.fits; footprint = refl }) may new_request.work.held is.holds new_request.pins.numbers is.pins)

    new_known : All (IsGivenPath (at_in mid.tree) new_request.work.held) new_request.work.held.given
    new_known = subst (λ (at : Lookup). All (IsGivenPath at new_request.work.held) new_request.work.held.given) (sym at_same)
        (known_held (at_in s.tree) tree_law (footprint_in new_request.work) new_request.work.held its_row is.holds (flight_of begun) given_pinned)

    new_alive : (n : ℕ) → pins_number begun n ≡ true → IsAlive (at_in mid.tree) n
    new_alive n pin = subst (λ (at : Lookup). IsAlive at n) (sym at_same)
        (pin_alive (at_in s.tree) tree_law (footprint_in new_request.work) new_request.work.held its_row is.holds (flight_of begun) given_pinned n ((is.pins n).0 (in_any_of new_request.pins.numbers n pin)))

    clear : HoldsUp (flights_in (requests_of mid.flights)) new_request.work.held → ⊥
    clear up = free (held_up_recorded (requests_of s.flights) new_request.work.held (subst (λ (fs : RequestsInFlight). HoldsUp fs new_request.work.held) flights_same up))

    -- ---- all requests

    at_work_now : (k : ℕ) (f : RequestInFlight) (work : Work) → IsAtWork (flights_in (requests_of flights)) k f work → ((id ≡ k) × (flight_of begun ≡ f) × (work_of new_request.work ≡ work)) ⊎ IsAtWork (flights_in (requests_of mid.flights)) k f work
    at_work_now k f work here = at_work_more (flights_in (requests_of mid.flights)) id (flight_of begun) (work_of new_request.work) refl k f work (subst (λ (fs : RequestsInFlight). IsAtWork fs k f work) flights_new here)

    all_ready : AreReady (at_in mid.tree) (flights_in (requests_of flights))
    all_ready k f work here = elim (at_work_now k f work here) [
      | inl (e, same_flight, same_work) ↦ subst (λ (g : RequestInFlight). IsReady (at_in mid.tree) g work) same_flight (subst (λ (v : Work). IsReady (at_in mid.tree) (flight_of begun) v) same_work new_ready)
      | inr was ↦ kept.ready k f work was
    ]

    all_held : AreHeld (at_in mid.tree) (flights_in (requests_of flights))
    all_held = record {
      apart = subst (λ (fs : RequestsInFlight). AreApart fs) (sym flights_new) (apart_more (flights_in (requests_of mid.flights)) id (flight_of begun) (work_of new_request.work) refl clear kept.held.apart);
      known = λ k f work here. elim (at_work_now k f work here) [
        | inl (e, same_flight, same_work) ↦ subst (λ (v : Work). All (IsGivenPath (at_in mid.tree) v.held) v.held.given) same_work new_known
        | inr was ↦ kept.held.known k f work was
      ];
    }

    all_provided : AreProvided (requests_of flights)
    all_provided k f work here working = elim (Adds_found (requests_of mid.flights) (requests_of flights) begun adds k f here) [
      | inl (e, same_flight) ↦
          let same_work : new_request.work ≡ work = same_record new_request.work work (ap (λ (g : Recorded). g.stage) same_flight ∙ working) in
          subst (λ (g : Recorded). IsProvided work g.pins) same_flight (subst (λ (v : RecordedWork). IsProvided v new_request.pins) same_work is.provided)
      | inr (ne, was) ↦ kept.provided k f work was working
    ]

    pinned_now : (n : ℕ) → (requests_of flights).pinned n ≡ ((requests_of mid.flights).pinned n || pins_number begun n)
    pinned_now n = ap (λ (g : ℕ → Bool). g n) adds.pinned

    all_lawful : IsUpheld (at_in mid.tree) mid.ledger.made (kept_by flights mid.files)
    all_lawful = lawful_pins (at_in mid.tree) mid.ledger.made (kept_by mid.flights mid.files) (kept_by flights mid.files) kept.law
        (kept_more mid.flights flights mid.files (λ n h. pinned_now n ∙ or_left ((requests_of mid.flights).pinned n) (pins_number begun n) h))
        (λ n h. elim (cases_kept flights mid.files n h) [
          | inl pin ↦ elim (or_cases ((requests_of mid.flights).pinned n) (pins_number begun n) (sym (pinned_now n) ∙ pin)) [
            | inl was ↦ kept.law.booked.alive n (keeps_pinned mid.flights mid.files n was)
            | inr here ↦ new_alive n here
          ]
          | inr opened ↦ kept.law.booked.alive n (keeps_open mid.flights mid.files n opened)
        ])

    same_file : {X : Type 0} → (of : Opened → X) → of (files_of mid.files) ≡ of (record (files_of s.files) { room = (files_of mid.files).room })
    same_file of = ap of same.files

    all_limited : IsLimited (record mid { flights = flights; counter = counter })
    all_limited = record {
      nodes = omega (arith, adds.nodes, allows.nodes, ap (λ (t : Nodes). t.living) same.tree, ap (λ (x : RequestMaps). x.nodes) same.flights, ap (λ (l : Limits). l.nodes) same.limits);
      entries = omega (arith, adds.postings, allows.entries, ap {B = ℕ} (λ (ps : Periods). (totals_over ps).entries) same.made, ap (λ (x : RequestMaps). x.postings) same.flights);
      counted = kept.limited.counted;
      births = kept.limited.births;
      begun = kept.limited.begun;
      postings = λ b. omega (arith, adds.postings, allows.postings.bounded (sym (ap (λ (l : Limits). l.counts) same.limits) ∙ b), ap {B = ℕ} (λ (ps : Periods). length ps.last) same.made, ap (λ (t : Nodes). t.counts) same.tree, ap (λ (x : RequestMaps). x.postings) same.flights, ap (λ (l : Limits). l.postings) same.limits);
      begun_within = λ f. omega (arith, adds.postings, allows.postings.begun (sym (ap (λ (l : Limits). l.counts) same.limits) ∙ f), ap (λ (x : RequestMaps). x.postings) same.flights, ap (λ (l : Limits). l.nodes) same.limits, ap (λ (l : Limits). l.postings) same.limits);
      flights = omega (arith, adds.many, allows.flights, ap (λ (x : RequestMaps). x.many) same.flights, ap (λ (l : Limits). l.flights) same.limits);
      files = omega (arith, adds.files, allows.handles.files, same_file (λ x. x.many), ap (λ (x : RequestMaps). x.files) same.flights, ap (λ (l : Limits). l.files) same.limits);
      handles = omega (arith, adds.files, allows.handles.handles, same_file (λ x. x.last), ap (λ (x : RequestMaps). x.files) same.flights);
      node_limit = kept.limited.node_limit;
      posting_limit = kept.limited.posting_limit;
      short = kept.limited.short;
    }

    pub begun_kept : IsKept (record mid { flights = flights; counter = counter })
    begun_kept = record {
      law = all_lawful;
      flying = all_flying;
      held = all_held;
      ready = all_ready;
      provided = all_provided;
      few = few_with mid.limits (requests_of mid.flights) (requests_of flights) id begun adds.at kept.few (λ f. omega (arith, allows.postings.begun (sym (ap (λ (l : Limits). l.counts) same.limits) ∙ f), ap (λ (l : Limits). l.nodes) same.limits, ap (λ (l : Limits). l.postings) same.limits));
      reserved = record {
        nodes = omega (arith, adds.nodes, room.nodes);
        births = omega (arith, adds.nodes, room.births);
        postings = λ b. omega (arith, adds.postings, room.postings b);
        whole = kept.reserved.whole;
        files = omega (arith, adds.files, room.files);
      };
      limited = all_limited;
      counts = kept.counts;
      filed = kept.filed;
      files = kept.files;
    }
