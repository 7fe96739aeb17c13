-- Opening a file: the invariants, and the end of a request with it.
use Rattle.std.proofs.Common.{ℕ, ◌+◌, ◌≡◌, ◌==◌, ◌||◌, Bool, true, false, Option, Some, None, refl, sym, ap, ◌∙◌, subst, inl, inr, arith, ◌≤◌}
use Rattle.std.proofs.lemmas.Bool.{cases_Bool, cases_eq, cond-false, cond-true, eq-eqb, eqb-true, ne_eqb, or_cases, or_left, or_right, true≢false}
use Rattle.std.proofs.lemmas.Option.{none-some, same_Some}
use Rattle.table_files.specs.declared.data.Access.{Access}
use Rattle.table_files.specs.declared.data.OpenFile.{OpenFile}
use Rattle.table_files.specs.OpenEntry.{Filing, files_of}
use Rattle.table_files.specs.Handles.{Files, AreOpenEntries, IsOpen, Opened, after_open}
use Rattle.table_law.specs.Law.{HasNode, HaveReasons}
use Rattle.table_steps.specs.Upheld.{IsUpheld}
use Rattle.tree.specs.declared.nodes.Node.{Node}
use Rattle.tree.specs.declared.nodes.Key.{Key}
use Rattle.tree.specs.Places.{at_in, IsAlive}
use Rattle.std.proofs.Common.{Contains, List}
use Rattle.table_requests.specs.declared.data.RequestInFlight.{RequestInFlight as Recorded}
use Rattle.table_requests.specs.declared.data.Stage.{Stage as Recording}
use Rattle.table_requests.specs.declared.data.Stage.TheVariants as recorded
use Rattle.table_requests.specs.RequestMaps.{AreLawfulRequests, Notes, is_working, opening, with_opened, most_posted}
use Rattle.table_requests.specs.Listed.{InFlight, requests_of}
use Rattle.table_footprints.specs.Asked.{IsThere}
use Rattle.table_footprints.specs.Footprints.{Opening}
use Rattle.table_steps.specs.declared.state.State.{State}
use Rattle.table_steps.specs.Answers.{Answer}
use Rattle.table_steps.specs.Ending.{HasFileRoom}
use Rattle.table_steps.specs.Keeping.{kept_by}
use Rattle.table_steps.specs.Kept.{IsKept}
use Rattle.table_steps.specs.Steps.{Act, Ends, Opens, answered}
use Rattle.table_steps.specs.Swept.{IsSwept}
use Rattle.table_steps.specs.World.{AreKept, RequestInFlight, RequestsInFlight, HaveNodes, IsPinned, World, with_entry}
use Rattle.table_steps.proofs.Ends.{entry_twice}
use Rattle.table_steps.proofs.Filing.{cases_kept, keeps_open, keeps_pinned, kept_same}
use Rattle.table_steps.proofs.Lawful.{lawful_pins}
use Rattle.table_steps.proofs.Reasons.{reasons_kept}
use Rattle.table_steps.proofs.Viewed.{IsFewer, fewer_held, fewer_idle, fewer_provided, fewer_ready}
use Rattle.table_steps.proofs.Few.{few_with}

-- ---- one more file

module _ (s : State) (files : Filing) (number : ℕ) (node : Node) (access : Access) (kept : IsKept s) (here : at_in s.tree number ≡ Some node) (room : HasFileRoom s)
    (is : files_of files ≡ after_open (files_of s.files) (record { number = number; generation = node.generation; access = access })) (filed : AreOpenEntries (files_of files)) where
  opened_is : (n : ℕ) → (files_of files).opened n ≡ ((files_of s.files).opened n || number == n)
  opened_is n = ap (λ (o : Opened). o.opened n) is

  more : (n : ℕ) → kept_by s.flights s.files n ≡ true → kept_by s.flights files n ≡ true
  more n h = elim (cases_kept s.flights s.files n h) [
    | inl pin ↦ keeps_pinned s.flights files n pin
    | inr opened ↦ keeps_open s.flights files n (opened_is n ∙ or_left ((files_of s.files).opened n) (number == n) opened)
  ]

  alive : (n : ℕ) → kept_by s.flights files n ≡ true → IsAlive (at_in s.tree) n
  alive n h = elim (cases_kept s.flights files n h) [
    | inl pin ↦ kept.law.booked.alive n (keeps_pinned s.flights s.files n pin)
    | inr opened ↦ elim (or_cases ((files_of s.files).opened n) (number == n) (sym (opened_is n) ∙ opened)) [
      | inl was ↦ kept.law.booked.alive n (keeps_open s.flights s.files n was)
      | inr e ↦ (node, ap (at_in s.tree) (sym (eqb-true number n e)) ∙ here)
    ]
  ]

  nodes : HaveNodes (at_in s.tree) (files_of files).at
  nodes handle file there =
      let now : with_entry (files_of s.files).at ((files_of s.files).last + 1) (Some (record { number = number; generation = node.generation; access = access })) handle ≡ Some file = ap (λ (o : Opened). o.at handle) (sym is) ∙ there in
      elim (cases_eq ((files_of s.files).last + 1) handle) [
        | inl e ↦
            let same = same_Some (record { number = number; generation = node.generation; access = access }) file (sym (cond-true ((files_of s.files).last + 1 == handle) _ _ (eq-eqb ((files_of s.files).last + 1) handle e)) ∙ now) in
            subst (λ (f : OpenFile). HasNode (at_in s.tree) f) same (record { node = node; here = here; generation = refl })
        | inr ne ↦ kept.files handle file (sym (cond-false ((files_of s.files).last + 1 == handle) _ _ (ne_eqb ((files_of s.files).last + 1) handle ne)) ∙ now)
      ]

  pub open_kept : IsKept (record s { files = files })
  open_kept = record {
    law = lawful_pins (at_in s.tree) s.ledger.made (kept_by s.flights s.files) (kept_by s.flights files) kept.law more alive;
    flying = kept.flying;
    held = kept.held;
    ready = kept.ready;
    provided = kept.provided;
    few = kept.few;
    reserved = record { nodes = kept.reserved.nodes; births = kept.reserved.births; postings = kept.reserved.postings; whole = kept.reserved.whole; files = omega (arith, room.room, ap (λ (o : Opened). o.room) is) };
    limited = record {
      nodes = kept.limited.nodes;
      postings = kept.limited.postings;
      begun_within = kept.limited.begun_within;
      entries = kept.limited.entries;
      counted = kept.limited.counted;
      births = kept.limited.births;
      begun = kept.limited.begun;
      flights = kept.limited.flights;
      files = omega (arith, room.within, ap (λ (o : Opened). o.many) is);
      handles = omega (arith, room.handles, ap (λ (o : Opened). o.last) is);
      node_limit = kept.limited.node_limit;
      posting_limit = kept.limited.posting_limit;
      short = kept.limited.short;
    };
    counts = kept.counts;
    filed = filed;
    files = nodes;
  }

-- ---- the request that opened it notes it

posted_noted : (st : Recording) (pins : List ℕ) (handle : ℕ) → most_posted (with_opened st handle) pins ≡ most_posted st pins
posted_noted (recorded.Working work) pins handle = refl
posted_noted (recorded.Answered before opened) pins handle = refl

working_noted : (st : Recording) (handle : ℕ) → is_working (with_opened st handle) ≡ is_working st
working_noted (recorded.Working work) handle = refl
working_noted (recorded.Answered before opened) handle = refl

module _ (s : State) (kept : IsKept s) (flights : InFlight) (id handle : ℕ) (x : Recorded) (here : (requests_of s.flights).at id ≡ Some x) (ended : is_working x.stage ≡ false) (notes : Notes (requests_of s.flights) id x handle (requests_of flights)) (law : AreLawfulRequests (requests_of flights)) where
  fewer : IsFewer (requests_of s.flights) (requests_of flights)
  fewer = fewer_idle (requests_of s.flights) (requests_of flights) id (opening x handle) notes.at (working_noted x.stage handle ∙ ended)

  pub note_kept : IsKept (record s { flights = flights })
  note_kept = record {
    law = subst (λ (keeps : ℕ → Bool). IsUpheld (at_in s.tree) s.ledger.made keeps) (sym (kept_same s.flights flights s.files s.files notes.pinned refl)) kept.law;
    flying = law;
    held = fewer_held (requests_of s.flights) (requests_of flights) fewer (at_in s.tree) kept.held;
    ready = fewer_ready (requests_of s.flights) (requests_of flights) fewer (at_in s.tree) kept.ready;
    provided = fewer_provided (requests_of s.flights) (requests_of flights) fewer kept.provided;
    few = few_with s.limits (requests_of s.flights) (requests_of flights) id (opening x handle) notes.at kept.few (λ free. subst (λ (k : ℕ). s.limits.nodes + k ≤ s.limits.postings) (sym (posted_noted x.stage x.pins.numbers handle)) (kept.few free id x here));
    reserved = record {
      nodes = omega (arith, notes.nodes, kept.reserved.nodes);
      births = omega (arith, notes.nodes, kept.reserved.births);
      postings = λ b. omega (arith, notes.postings, kept.reserved.postings b);
      whole = kept.reserved.whole;
      files = omega (arith, notes.files, kept.reserved.files);
    };
    limited = record {
      nodes = omega (arith, notes.nodes, kept.limited.nodes);
      postings = λ b. omega (arith, notes.postings, kept.limited.postings b);
      begun_within = λ f. omega (arith, notes.postings, kept.limited.begun_within f);
      entries = omega (arith, notes.postings, kept.limited.entries);
      counted = kept.limited.counted;
      births = kept.limited.births;
      begun = kept.limited.begun;
      flights = omega (arith, notes.many, kept.limited.flights);
      files = omega (arith, notes.files, kept.limited.files);
      handles = omega (arith, notes.files, kept.limited.handles);
      node_limit = kept.limited.node_limit;
      posting_limit = kept.limited.posting_limit;
      short = kept.limited.short;
    };
    counts = kept.counts;
    filed = kept.filed;
    files = kept.files;
  }

-- the same pins under the id pin the same numbers
module _ (flights : RequestsInFlight) (id : ℕ) (x y : RequestInFlight) (here : flights id ≡ Some x) (same : y.pins ≡ x.pins) (n : ℕ) where
  pinned_forth : IsPinned flights n → IsPinned (with_entry flights id (Some y)) n
  pinned_forth p = elim (cases_eq id p.id) [
    | inl e ↦
        let one : x ≡ p.flight = same_Some x p.flight (sym here ∙ (ap flights e ∙ p.here)) in
        record {
          id = id;
          flight = y;
          here = cond-true (id == id) (Some y) (flights id) (eq-eqb id id refl);
          pin = subst (λ (ns : List ℕ). Contains ns n) (sym (same ∙ ap (λ (f : RequestInFlight). f.pins) one)) p.pin;
        }
    | inr ne ↦ record { id = p.id; flight = p.flight; here = cond-false (id == p.id) (Some y) (flights p.id) (ne_eqb id p.id ne) ∙ p.here; pin = p.pin }
  ]

  pinned_back : IsPinned (with_entry flights id (Some y)) n → IsPinned flights n
  pinned_back p = elim (cases_eq id p.id) [
    | inl e ↦
        let one : y ≡ p.flight = same_Some y p.flight (sym (cond-true (id == p.id) (Some y) (flights p.id) (eq-eqb id p.id e)) ∙ p.here) in
        record { id = id; flight = x; here = here; pin = subst (λ (ns : List ℕ). Contains ns n) (sym (ap (λ (f : RequestInFlight). f.pins) one) ∙ same) p.pin }
    | inr ne ↦ record { id = p.id; flight = p.flight; here = sym (cond-false (id == p.id) (Some y) (flights p.id) (ne_eqb id p.id ne)) ∙ p.here; pin = p.pin }
  ]

-- ---- the end with a file that is opened

module _ (old mid : World) (id : ℕ) (f : RequestInFlight) (act : Act) (keys : List Key) (answer : Answer) (wanted : Opening) (e : Ends old id f act keys answer mid) (none : act.opens ≡ None) (number : ℕ) (node : Node)
    (there : IsThere e.altered wanted.target number) (here : mid.at number ≡ Some node) (fresh : mid.files (mid.last_handle + 1) ≡ None) where
  abbrev handle : ℕ
  handle = mid.last_handle + 1

  abbrev file : OpenFile
  file = record { number = number; generation = node.generation; access = wanted.access }

  abbrev first : RequestInFlight
  first = answered f answer.given answer.opened

  abbrev last : RequestInFlight
  last = answered f answer.given (Some handle)

  abbrev pub with_file : World
  with_file = record mid { flights = with_entry mid.flights id (Some last); files = with_entry mid.files handle (Some file); last_handle = handle }

  pub first_here : mid.flights id ≡ Some first
  first_here = ap (λ (w : World). w.flights id) e.new_is ∙ cond-true (id == id) (Some first) (old.flights id) (eq-eqb id id refl)

  was : Opens e.altered None old answer.opened mid.files mid.last_handle
  was = subst (λ (o : Option Opening). Opens e.altered o old answer.opened mid.files mid.last_handle) none e.opens

  abbrev kept : ℕ → Bool
  kept n = e.sweeps.kept n || number == n

  open_forth : (n : ℕ) → IsOpen mid.files n → IsOpen with_file.files n
  open_forth n it = record {
    handle = it.handle;
    file = it.file;
    here = cond-false (handle == it.handle) (Some file) (mid.files it.handle) (ne_eqb handle it.handle (λ same. none-some it.file (sym fresh ∙ (ap mid.files same ∙ it.here)))) ∙ it.here;
    node = it.node;
  }

  open_own : IsOpen with_file.files number
  open_own = record { handle = handle; file = file; here = cond-true (handle == handle) (Some file) (mid.files handle) (eq-eqb handle handle refl); node = refl }

  keeps : AreKept with_file.flights with_file.files kept
  keeps n = (
    λ h. elim (or_cases (e.sweeps.kept n) (number == n) h) [
      | inl before ↦ elim ((e.sweeps.keeps n).0 before) [
        | inl pin ↦ inl (pinned_forth mid.flights id first last first_here refl n pin)
        | inr opened ↦ inr (open_forth n opened)
      ]
      | inr same ↦ inr (subst (λ k. IsOpen with_file.files k) (eqb-true number n same) open_own)
    ],
    λ h. elim h [
      | inl pin ↦ or_left (e.sweeps.kept n) (number == n) ((e.sweeps.keeps n).1 (inl (pinned_back mid.flights id first last first_here refl n pin)))
      | inr it ↦ elim (cases_eq handle it.handle) [
        | inl same ↦
            let one = same_Some file it.file (sym (cond-true (handle == it.handle) (Some file) (mid.files it.handle) (eq-eqb handle it.handle same)) ∙ it.here) in
            or_right (e.sweeps.kept n) (number == n) (eq-eqb number n (ap (λ (g : OpenFile). g.number) one ∙ it.node))
        | inr ne ↦
            let before : IsOpen mid.files n = record { handle = it.handle; file = it.file; here = sym (cond-false (handle == it.handle) (Some file) (mid.files it.handle) (ne_eqb handle it.handle ne)) ∙ it.here; node = it.node } in
            or_left (e.sweeps.kept n) (number == n) ((e.sweeps.keeps n).1 (inr before))
      ]
    ],
  )

  unkept : (n : ℕ) → mid.at n ≡ None → e.sweeps.kept n ≡ false → kept n ≡ false
  unkept n gone before = elim (cases_Bool (kept n)) [
    | inl held ↦ elim (or_cases (e.sweeps.kept n) (number == n) held) [
      | inl bad ↦ absurd (true≢false (sym bad ∙ before))
      | inr same ↦ absurd (none-some node (sym gone ∙ (ap mid.at (sym (eqb-true number n same)) ∙ here)))
    ]
    | inr free ↦ free
  ]

  swept : IsSwept kept e.altered mid.at
  swept = record {
    kept = e.sweeps.swept.kept;
    gone = λ n x stood gone. let it = e.sweeps.swept.gone n x stood gone in record { not_root = it.not_root; count = it.count; unmarked = it.unmarked; unkept = unkept n gone it.unkept; childless = it.childless };
  }

  reasons : HaveReasons mid.at kept
  reasons = reasons_kept mid.at e.sweeps.kept kept (λ n h. or_left (e.sweeps.kept n) (number == n) h) e.sweeps.reasons

  pub ends_opened : Ends old id f (record act { opens = Some wanted }) keys (record answer { opened = Some handle }) with_file
  ends_opened = record {
    answer_id = e.answer_id;
    not_lost = e.not_lost;
    entered = e.entered;
    enters = e.enters;
    altered = e.altered;
    alters = e.alters;
    opens = record {
      number = number;
      there = there;
      node = node;
      here = e.sweeps.swept.kept number node here;
      last_is = ap (λ (n : ℕ). n + 1) was.2;
      opened_is = refl;
      files_are = ap (λ (fs : Files). with_entry fs handle (Some file)) was.1;
    };
    sweeps = record { kept = kept; keeps = keeps; swept = swept; reasons = reasons };
    new_is = ap (λ (w : World). let v : World = record w { flights = with_entry w.flights id (Some last); files = with_entry mid.files handle (Some file); last_handle = handle } in v) e.new_is
        ∙ ap (λ (fs : RequestsInFlight). let v : World = record old { at = mid.at; postings = mid.postings; flights = fs; files = with_entry mid.files handle (Some file); last_handle = handle } in v) (entry_twice old.flights id (Some first) (Some last));
  }
