-- The invariants of a table when a request gives an entry and pins its node.
use Rattle.std.proofs.Common.{ℕ, ◌+◌, ◌<◌, ◌≤◌, ◌≡◌, ◌==◌, ◌||◌, Bool, List, [], ◌∷◌, Some, Contains, refl, sym, ap, ◌∙◌, subst, inl, inr, arith}
use Rattle.std.proofs.lemmas.Bool.{cond-true, eq-eqb, or_cases, or_left, eqb-true}
use Rattle.std.proofs.lemmas.Option.{same_Some}
use Rattle.ledger.specs.Postings.{Postings}
use Rattle.tree.specs.declared.nodes.Key.{Key}
use Rattle.tree.specs.Places.{Nodes, at_in, IsAlive, IsFree}
use Rattle.table_files.specs.OpenEntry.{files_of}
use Rattle.table_requests.specs.declared.data.RequestInFlight.{RequestInFlight as Recorded}
use Rattle.table_requests.specs.declared.data.Given.{Given}
use Rattle.table_requests.specs.RequestMaps.{RequestsInFlight as Recordeds, AreLawfulRequests, PinsMore, pinning, most_posted}
use Rattle.table_requests.specs.Listed.{InFlight, requests_of}
use Rattle.table_steps.specs.Upheld.{IsUpheld}
use Rattle.table_steps.specs.Keeping.{kept_by}
use Rattle.table_steps.specs.declared.state.State.{State}
use Rattle.table_steps.specs.Ending.{EntersName, MayEnter, MayFill, giving}
use Rattle.table_steps.specs.Entries.{Enters, newborn}
use Rattle.table_steps.specs.Kept.{IsKept, flight_of, flights_in, world_of}
use Rattle.table_steps.specs.Sweeping.{IsEntered}
use Rattle.table_steps.specs.World.{AreReady, RequestsInFlight, World, with_entry}
use Rattle.table_footprints.proofs.Members.{first_in, later_in}
use Rattle.table_steps.proofs.Filing.{cases_kept, keeps_open, keeps_pinned, kept_more, nodes_entered}
use Rattle.table_steps.proofs.Entering.{alive_written}
use Rattle.table_steps.proofs.Guarding.{entered_path, entered_way}
use Rattle.table_steps.proofs.Kept.{held_ready, ready_where}
use Rattle.table_steps.proofs.Lawful.{lawful_pins}
use Rattle.table_steps.proofs.Viewed.{IsFewer, fewer_held, fewer_idle, fewer_provided, fewer_ready, flights_with}
use Rattle.table_steps.proofs.Few.{few_with, one_pinned}

module _ (s : State) (id : ℕ) (key : Key) (may : MayEnter s id (key ∷ [])) where
  mine : Contains (key ∷ []) key
  mine = first_in key []

  -- if the name has no node, one was promised
  pub room_to_create : IsFree (at_in s.tree) key.parent key.name → (0 < s.tree.room) × (0 < s.ledger.places)
  room_to_create free = elim may.births [
    | inl one ↦ (omega (arith, one, may.room.nodes), omega (arith, one, may.room.births))
    | inr named ↦ let it = named key mine in absurd (free it.0 it.1)
  ]

  module _ (kept : IsKept s) (g : Given) (tree : Nodes) (ledger : Postings) (flights : InFlight) (law : IsUpheld (at_in tree) ledger.made (kept_by s.flights s.files))
      (enters : Enters (at_in s.tree) s.ledger.made key.parent key.name g (at_in tree) ledger.made) (entered : IsEntered s.tree s.ledger key.parent key.name tree ledger)
      (pins : PinsMore (requests_of s.flights) id may.flight g.number (requests_of flights)) (flying : AreLawfulRequests (requests_of flights)) where
    pub alive : IsAlive (at_in tree) g.number
    alive = elim enters [
      | inl again ↦ alive_written (at_in s.tree) (at_in tree) g.number (record again.node { count = again.node.count + 1 }) again.nodes
      | inr born ↦ alive_written (at_in s.tree) (at_in tree) g.number (newborn g key.parent key.name) born.nodes
    ]

    pinned_is : (m : ℕ) → (requests_of flights).pinned m ≡ ((requests_of s.flights).pinned m || g.number == m)
    pinned_is m = ap (λ (f : ℕ → Bool). f m) pins.pinned

    born_promised : entered.born ≤ may.promise.nodes
    born_promised = elim may.births [
      | inl one ↦ let b = entered.one in omega (arith, one, b)
      | inr named ↦ let it = named key mine in let b = entered.none it.0 it.1 in omega (arith, b)
    ]

    fewer : IsFewer (requests_of s.flights) (requests_of flights)
    fewer = fewer_idle (requests_of s.flights) (requests_of flights) id (pinning may.flight g.number) pins.at may.answered

    still_ready : AreReady (at_in tree) (flights_in (requests_of flights))
    still_ready =
        let all = requests_of s.flights in
        fewer_ready all (requests_of flights) fewer (at_in tree)
        (ready_where (at_in s.tree) (at_in tree) (flights_in all) law.tree (entered_path (at_in s.tree) s.ledger.made key.parent key.name g (at_in tree) ledger.made enters) kept.ready)

    pub give_kept : IsKept (record s { tree = tree; ledger = ledger; flights = flights; counts = s.counts + 1 })
    give_kept =
        let all = requests_of s.flights in
        let more = entered.more_is in
        record {
          law = lawful_pins (at_in tree) ledger.made (kept_by s.flights s.files) (kept_by flights s.files) law
              (kept_more s.flights flights s.files (λ m h. pinned_is m ∙ or_left (all.pinned m) (g.number == m) h))
              (λ m h. elim (cases_kept flights s.files m h) [
                | inl pin ↦ elim (or_cases (all.pinned m) (g.number == m) (sym (pinned_is m) ∙ pin)) [
                  | inl was ↦ law.booked.alive m (keeps_pinned s.flights s.files m was)
                  | inr here ↦ (alive.0, ap (at_in tree) (sym (eqb-true g.number m here)) ∙ alive.1)
                ]
                | inr opened ↦ law.booked.alive m (keeps_open s.flights s.files m opened)
              ]);
          flying = flying;
          held = held_ready (at_in s.tree) (at_in tree) (flights_in (requests_of flights)) still_ready (fewer_held all (requests_of flights) fewer (at_in s.tree) kept.held);
          ready = still_ready;
          provided = fewer_provided all (requests_of flights) fewer kept.provided;
          few = few_with s.limits all (requests_of flights) id (pinning may.flight g.number) pins.at kept.few (λ f. let one = one_pinned may.flight.stage may.flight.pins.numbers g.number may.answered in omega (arith, may.few f, one));
          reserved = record {
            nodes = omega (arith, pins.nodes, may.room.nodes, more.room, born_promised);
            births = omega (arith, pins.nodes, may.room.births, more.places, born_promised);
            postings = λ b. omega (arith, pins.postings, may.room.postings b, may.postings, more.counts, more.posting_room, entered.one);
            whole = λ f. omega (arith, kept.reserved.whole f, more.postings, more.posting_room);
            files = omega (arith, pins.files, kept.reserved.files);
          };
          limited = record {
            nodes = omega (arith, pins.nodes, may.room.nodes_within, more.living, born_promised);
            postings = λ b. omega (arith, pins.postings, may.room.postings_within b, may.postings, more.counts, more.postings, entered.one);
            begun_within = λ f. omega (arith, pins.postings, kept.limited.begun_within f);
            entries = omega (arith, pins.postings, may.room.entries, may.postings, more.entries);
            counted = omega (arith, kept.limited.counted, more.counts, more.entries);
            births = omega (arith, kept.limited.births, more.entries, more.births, entered.one);
            begun = omega (arith, kept.limited.begun, more.living, more.postings);
            flights = omega (arith, pins.many, kept.limited.flights);
            files = omega (arith, pins.files, kept.limited.files);
            handles = omega (arith, pins.files, kept.limited.handles);
            node_limit = more.limit ∙ kept.limited.node_limit;
            posting_limit = more.posting_limit ∙ kept.limited.posting_limit;
            short = kept.limited.short;
          };
          counts = omega (arith, kept.counts, more.counts);
          filed = kept.filed;
          files = nodes_entered (files_of s.files).at (at_in s.tree) s.ledger.made key.parent key.name g (at_in tree) ledger.made enters kept.files;
        }

    -- the same request, with one more pin
    flights_are : flights_in (requests_of flights) ≡ with_entry (flights_in (requests_of s.flights)) id (Some (giving (flight_of may.flight) (Some g ∷ [])))
    flights_are = flights_with (requests_of s.flights) (requests_of flights) id (pinning may.flight g.number) pins.at

    enters_one : EntersName (world_of s) id (flight_of may.flight) key g (world_of (record s { tree = tree; ledger = ledger; flights = flights; counts = s.counts + 1 }))
    enters_one = record {
      enters = enters;
      new_is = ap (λ (fs : RequestsInFlight). let w : World = record (world_of s) { at = at_in tree; postings = ledger.made; flights = fs } in w) flights_are;
    }

    -- the request gives an entry of the name, and pins its node
    pub give_enters : (f : Recorded) → (requests_of s.flights).at id ≡ Some f → EntersName (world_of s) id (flight_of f) key g (world_of (record s { tree = tree; ledger = ledger; flights = flights; counts = s.counts + 1 }))
    give_enters f here =
        subst (λ (r : Recorded). EntersName (world_of s) id (flight_of r) key g (world_of (record s { tree = tree; ledger = ledger; flights = flights; counts = s.counts + 1 })))
        (same_Some may.flight f (sym may.here ∙ here)) enters_one

    -- the remaining names may still be filled
    pub give_more : (rest : List Key) → MayFill s id (key ∷ rest) → MayFill (record s { tree = tree; ledger = ledger; flights = flights; counts = s.counts + 1 }) id rest
    give_more rest fill =
        let more = entered.more_is in
        let same : fill.flight ≡ may.flight = same_Some fill.flight may.flight (sym fill.here ∙ may.here) in
        let room : fill.flight.pins.room ≡ may.flight.pins.room = ap (λ (r : Recorded). r.pins.room) same in
        record {
          flight = pinning may.flight g.number;
          here = ap (λ (at : Recordeds). at id) pins.at ∙ cond-true (id == id) (Some (pinning may.flight g.number)) ((requests_of s.flights).at id) (eq-eqb id id refl);
          answered = may.answered;
          pin_room = omega (arith, fill.pin_room, room);
          leads = λ k h.
              let up = fill.leads k (later_in key rest k h) in
              record { names = up.names; climb = entered_way (at_in s.tree) s.ledger.made key.parent key.name g (at_in tree) ledger.made enters k.parent up.names up.climb };
          room = record {
            nodes = omega (arith, pins.nodes, fill.room.nodes, more.room, entered.one);
            births = omega (arith, pins.nodes, fill.room.births, more.places, entered.one);
            postings = λ b. omega (arith, pins.postings, fill.room.postings b, more.counts, more.posting_room, entered.one);
            at_once = λ f. omega (arith, fill.room.at_once f, more.posting_room, entered.one);
            nodes_within = omega (arith, pins.nodes, fill.room.nodes_within, more.living, entered.one);
            postings_within = λ b. omega (arith, pins.postings, fill.room.postings_within b, more.counts, more.postings, entered.one);
            entries = omega (arith, pins.postings, fill.room.entries, more.entries);
            files = omega (arith, pins.files, fill.room.files);
            files_within = omega (arith, pins.files, fill.room.files_within);
            handles = omega (arith, pins.files, fill.room.handles);
          };
          few = λ f.
              let one = one_pinned may.flight.stage may.flight.pins.numbers g.number may.answered in
              let is = ap (λ (r : Recorded). most_posted r.stage r.pins.numbers) same in
              omega (arith, fill.few f, one, is);
        }
