-- Which file an outcome opens: that it may be opened, and the end of a request with it.
use Rattle.std.proofs.Common.{ℕ, ◌+◌, ◌≡◌, ◌==◌, if◌then◌else◌, Bool, true, false, List, [], ◌∷◌, Contains, Option, Some, None, length, refl, sym, ap, ◌∙◌, subst, ◌⊎◌, inl, inr, arith}
use Rattle.std.specs.Prelude.{is_some, option_map}
use Rattle.std.proofs.lemmas.Bool.{cond-true, eq-eqb}
use Rattle.std.proofs.lemmas.Option.{none-some, same_Some}
use Rattle.table_files.specs.declared.data.Access.{Access}
use Rattle.table_files.specs.declared.data.OpenFile.{OpenFile}
use Rattle.table_files.specs.OpenEntry.{Filing, files_of}
use Rattle.table_files.specs.Handles.{AreOpenEntries, Opened}
use Rattle.table_requests.specs.declared.data.Given.{Given}
use Rattle.table_requests.specs.declared.data.Promise.{Promise}
use Rattle.table_requests.specs.declared.data.Work.{Work as RecordedWork}
use Rattle.table_requests.specs.declared.data.RequestInFlight.{RequestInFlight as Recorded}
use Rattle.table_requests.specs.declared.data.Stage.{Stage as Recording}
use Rattle.table_requests.specs.declared.data.Stage.TheVariants as recorded
use Rattle.table_requests.specs.RequestMaps.{is_working, opening, with_opened}
use Rattle.table_requests.specs.Listed.{InFlight, requests_of}
use Rattle.tree.specs.declared.nodes.Key.{Key}
use Rattle.tree.specs.Places.{IsAlive, IsNamed, Lookup, at_in}
use Rattle.table_footprints.specs.NewRequests.{footprint_in}
use Rattle.table_footprints.specs.Footprints.{AtNode, Opening, stays}
use Rattle.table_steps.specs.declared.acts.EnteredNames.{EnteredNames as Entered}
use Rattle.table_steps.specs.declared.acts.EnteredNames.TheVariants.{Nothing, One, Page}
use Rattle.table_steps.specs.declared.acts.Opens.{Opens as Opening_}
use Rattle.table_steps.specs.declared.acts.Opens.TheVariants as opens
use Rattle.terms.specs.declared.limits.Limits.{Limits}
use Rattle.table_steps.specs.declared.state.State.{State}
use Rattle.table_steps.specs.Answers.{Answer}
use Rattle.table_steps.specs.Ending.{GivesAll, HasEnded, HasFileRoom, IsEnding, MayOpen, MayOpenGiven, OpensAt, IsGivenFor, OpensGiven, OpensNode, exclusive_in, is_page, giving, keys_in, name_at, with_in}
use Rattle.table_steps.specs.Keeping.{kept_by}
use Rattle.table_steps.specs.Kept.{IsKept, flight_of, stage_of, world_of}
use Rattle.ledger.specs.Periods.{Periods}
use Rattle.tree.proofs.LookupLemmas.{with_same}
use Rattle.table_footprints.specs.Asked.{IsThere}
use Rattle.table_steps.specs.Entries.{Enters, newborn}
use Rattle.table_steps.specs.Steps.{Act, Ends, EntersAll, answered, one_found, opened_alone, opened_with}
use Rattle.table_steps.specs.World.{Answered, RequestInFlight, RequestsInFlight, Stage, Working, World, with_entry}
use Rattle.table_steps.proofs.Ended.{ended_recorded, ended_seen, has_ended}
use Rattle.table_steps.proofs.OneFile.{ends_opened, first_here}
use Rattle.table_steps.proofs.Rooted.{node_given}
use Rattle.table_steps.proofs.Viewed.{are_kept, flights_with, found_in}

some_if : (b : Bool) (o : Option Opening) (x : Opening) → Some x ≡ (if b then o else None) → o ≡ Some x
some_if true o x e = sym e
some_if false o x e = absurd (none-some x (sym e))

some_unless : (b : Bool) (o : Option Opening) (x : Opening) → Some x ≡ (if b then None else o) → o ≡ Some x
some_unless true o x e = absurd (none-some x (sym e))
some_unless false o x e = sym e

module _ (s : State) (id : ℕ) (work : RecordedWork) (kept : IsKept s) (e : IsEnding s id work) where
  one_file : (x : Opening) → (footprint_in work).opens ≡ Some x → work.promise.files ≡ 1
  one_file x is = ap (λ (p : Promise). p.files) e.provided.promise ∙ ap {B = ℕ} (λ (o : Option Opening). if is_some o then 1 else 0) is

  file_room : work.promise.files ≡ 1 → HasFileRoom s
  file_room one = record {
    room = omega (arith, one, e.room.files);
    within = omega (arith, one, e.room.files_within);
    handles = omega (arith, one, e.room.handles);
  }

  room_same : (new : State) → new.files ≡ s.files → new.limits ≡ s.limits → (requests_of new.flights).files ≡ (requests_of s.flights).files → HasFileRoom s → HasFileRoom new
  room_same new files limits promised room =
      let f = λ (of : Opened → ℕ). ap (λ (x : Filing). of (files_of x)) files in
      record {
        room = omega (arith, room.room, promised, f (λ o. o.room));
        within = omega (arith, room.within, promised, f (λ o. o.many), ap (λ (l : Limits). l.files) limits);
        handles = omega (arith, room.handles, promised, f (λ o. o.last));
      }

  still_ended : (new : State) → new.flights ≡ s.flights → HasEnded new id
  still_ended new same = record { flight = e.flight; here = ap (λ (fs : InFlight). (requests_of fs).at id) same ∙ e.here; ended = ap is_working e.answered }

  module _ (new : State) (kept' : IsKept new) (rest : new ≡ record s { tree = new.tree }) where
    alive : (n : ℕ) → Contains (footprint_in work).given n → IsAlive (at_in new.tree) n
    alive n given =
        let held : kept_by s.flights s.files n ≡ true = (are_kept s.flights s.files kept.flying kept.filed n).1 (inl (record { id = id; flight = flight_of e.flight; here = ap (λ o. option_map flight_of o) e.here; pin = e.ready.pinned n given })) in
        kept'.law.booked.alive n (ap (λ (t : State). kept_by t.flights t.files n) rest ∙ held)

    pub may_open : (o : Opening_) → exclusive_in o ≡ opened_alone (footprint_in work) → MayOpen new id o
    may_open opens.Nothing is = tt
    may_open (opens.Node number access) is = (
      alive number (node_given work.want work.case number access is),
      room_same new (ap (λ (t : State). t.files) rest) (ap (λ (t : State). t.limits) rest) (ap (λ (t : State). (requests_of t.flights).files) rest)
          (file_room (one_file _ (some_if (length (footprint_in work).entries == 0) (footprint_in work).opens _ is))),
      still_ended new (ap (λ (t : State). t.flights) rest),
    )
    may_open (opens.Entry access) is = tt

  pub may_given : (new : State) → new.files ≡ s.files → new.limits ≡ s.limits → (requests_of new.flights).files ≡ (requests_of s.flights).files → (o : Opening_) (entries : Entered) (given : List (Option Given)) (entered : Option Given)
      → with_in o entries ≡ opened_with (footprint_in work) → IsGivenFor new entries given entered → HasEnded new id → MayOpenGiven new id o entered
  may_given new files limits promised opens.Nothing entries given entered is it ended = tt
  may_given new files limits promised (opens.Node number access) entries given entered is it ended = tt
  may_given new files limits promised (opens.Entry access) Nothing given None is it ended = tt
  may_given new files limits promised (opens.Entry access) Nothing given (Some g) is it ended = absurd (none-some g (sym it))
  may_given new files limits promised (opens.Entry access) (One keys) given None is it ended = tt
  may_given new files limits promised (opens.Entry access) (One keys) given (Some g) is it ended = (
    subst (λ (h : Given). IsAlive (at_in new.tree) h.number) (sym (same_Some g it.0 it.1)) it.3,
    room_same new files limits promised (file_room (one_file _ (some_unless (length (footprint_in work).entries == 0) (footprint_in work).opens _ is))),
    ended,
  )
  may_given new files limits promised (opens.Entry access) (Page keys) given None is it ended = tt
  may_given new files limits promised (opens.Entry access) (Page keys) given (Some g) is it ended = absurd (none-some g (sym it))

-- ---- the end with a file

cases_file : (o : Option OpenFile) → (o ≡ None) ⊎ ((file : OpenFile) × (o ≡ Some file))
cases_file None = inl refl
cases_file (Some file) = inr (file, refl)

filed_fresh : (all : Opened) → AreOpenEntries all → all.at (all.last + 1) ≡ None
filed_fresh all filed = elim (cases_file (all.at (all.last + 1))) [
  | inl none ↦ none
  | inr (file, here) ↦ let it = filed.given (all.last + 1) file here in absurd (let most = it.1 in omega arith)
]

-- a request that gave something has still ended
pub ended_gave : (s new : State) (id : ℕ) (x : Recorded) (keys : List Key) (found : List Bool) (given : List (Option Given)) → is_working x.stage ≡ false → GivesAll (world_of s) id (flight_of x) keys found given (world_of new) → HasEnded new id
ended_gave s new id x keys found given idle gives =
    let there : (world_of new).flights id ≡ Some (giving (flight_of x) given) =
    ap (λ (w : World). w.flights id) gives.new_is ∙ cond-true (id == id) (Some (giving (flight_of x) given)) ((world_of s).flights id) (eq-eqb id id refl) in
    let it = found_in ((requests_of new.flights).at id) (giving (flight_of x) given) there in
    record { flight = it.0; here = it.1; ended = ended_recorded it.0.stage (ap (λ (f : RequestInFlight). has_ended f.stage) it.2 ∙ ended_seen x.stage idle) }

-- how the world sees a file that is noted
abbrev with_noted : Stage → ℕ → Stage
with_noted (Working work) handle = Working work
with_noted (Answered before opened) handle = Answered before (Some handle)

stage_noted : (st : Recording) (handle : ℕ) → stage_of (with_opened st handle) ≡ with_noted (stage_of st) handle
stage_noted (recorded.Working work) handle = refl
stage_noted (recorded.Answered before opened) handle = refl

flight_noted : (x : Recorded) (f : RequestInFlight) (given : List (Option Given)) (opened : Option ℕ) (handle : ℕ) → flight_of x ≡ answered f given opened → flight_of (opening x handle) ≡ answered f given (Some handle)
flight_noted x f given opened handle same =
    ap (λ (st : Stage). let g : RequestInFlight = record { unique = x.unique; stage = st; pins = x.pins.numbers } in g) (stage_noted x.stage handle)
    ∙ ap (λ (g : RequestInFlight). let h : RequestInFlight = record g { stage = with_noted g.stage handle } in h) same

world_opened : (mid new : State) (id number : ℕ) (access : Access) (at : OpensAt mid id number access new) (x : Recorded) → (requests_of mid.flights).at id ≡ Some x
    → world_of new ≡ record (world_of mid) {
      flights = with_entry (world_of mid).flights id (Some (flight_of (opening x ((files_of mid.files).last + 1))));
      files = with_entry (world_of mid).files ((files_of mid.files).last + 1) (Some (record { number = number; generation = at.node.generation; access = access }));
      last_handle = (files_of mid.files).last + 1;
    }
world_opened mid new id number access at x here =
    let handle = (files_of mid.files).last + 1 in
    ap world_of at.rest
    ∙ (ap (λ (fs : RequestsInFlight). let w : World = record (world_of mid) { flights = fs; files = (files_of new.files).at; last_handle = (files_of new.files).last } in w)
    (flights_with (requests_of mid.flights) (requests_of new.flights) id (opening x handle) (at.notes x here).at)
    ∙ ap (λ (o : Opened). let w : World = record (world_of mid) { flights = with_entry (world_of mid).flights id (Some (flight_of (opening x handle))); files = o.at; last_handle = o.last } in w) at.files)

module _ (old : World) (id : ℕ) (f : RequestInFlight) (mid new : State) (kept : IsKept mid) (opened : Option ℕ) where
  base : (act : Act) (keys : List Key) (answer : Answer) → Ends old id f act keys answer (world_of mid) → act.opens ≡ None → answer.opened ≡ None → opened ≡ None → new ≡ mid
      → Ends old id f (record act { opens = None }) keys (record answer { opened = opened }) (world_of new)
  base act keys answer e none unopened a b =
      subst (λ (t : State). Ends old id f (record act { opens = None }) keys (record answer { opened = opened }) (world_of t)) (sym b)
      (subst (λ (h : Option ℕ). Ends old id f (record act { opens = None }) keys (record answer { opened = h }) (world_of mid)) (unopened ∙ sym a)
      (subst (λ (o : Option Opening). Ends old id f (record act { opens = o }) keys answer (world_of mid)) none e))

  one : (act : Act) (keys : List Key) (answer : Answer) (e : Ends old id f act keys answer (world_of mid)) → act.opens ≡ None → (wanted : Opening) (number : ℕ) → IsThere e.altered wanted.target number
      → opened ≡ Some ((files_of mid.files).last + 1) → OpensAt mid id number wanted.access new → Ends old id f (record act { opens = Some wanted }) keys (record answer { opened = opened }) (world_of new)
  one act keys answer e none wanted number there a at =
      let handle = (files_of mid.files).last + 1 in
      let file : OpenFile = record { number = number; generation = at.node.generation; access = wanted.access } in
      let it = found_in ((requests_of mid.flights).at id) (answered f answer.given answer.opened) (first_here old (world_of mid) id f act keys answer wanted e none number at.node there at.here (filed_fresh (files_of mid.files) kept.filed)) in
      let now : flight_of (opening it.0 handle) ≡ answered f answer.given (Some handle) = flight_noted it.0 f answer.given answer.opened handle it.2 in
      subst (λ (w : World). Ends old id f (record act { opens = Some wanted }) keys (record answer { opened = opened }) w) (sym (world_opened mid new id number wanted.access at it.0 it.1))
      (subst (λ (h : Option ℕ). Ends old id f (record act { opens = Some wanted }) keys (record answer { opened = h })
      (record (world_of mid) { flights = with_entry (world_of mid).flights id (Some (flight_of (opening it.0 handle))); files = with_entry (world_of mid).files handle (Some file); last_handle = handle })) (sym a)
      (subst (λ (g : RequestInFlight). Ends old id f (record act { opens = Some wanted }) keys (record answer { opened = Some handle })
      (record (world_of mid) { flights = with_entry (world_of mid).flights id (Some g); files = with_entry (world_of mid).files handle (Some file); last_handle = handle })) (sym now)
      (ends_opened old (world_of mid) id f act keys answer wanted e none number at.node there at.here (filed_fresh (files_of mid.files) kept.filed))))

  pub ends_alone : (act : Act) (keys : List Key) (answer : Answer) → Ends old id f act keys answer (world_of mid) → act.opens ≡ None → answer.opened ≡ None → (o : Opening_) → OpensNode mid id o opened new
      → Ends old id f (record act { opens = exclusive_in o }) keys (record answer { opened = opened }) (world_of new)
  ends_alone act keys answer e none unopened opens.Nothing it = base act keys answer e none unopened it.0 it.1
  ends_alone act keys answer e none unopened (opens.Node number access) it = one act keys answer e none (record { target = AtNode number; access = access }) number refl it.0 it.1
  ends_alone act keys answer e none unopened (opens.Entry access) it = base act keys answer e none unopened it.0 it.1

  -- the node whose entry was given has this name
  named : (at new_at : Lookup) (ps qs : Periods) (parent : ℕ) (name : List ℕ) (g : Given) → Enters at ps parent name g new_at qs → IsNamed new_at g.number parent name
  named at new_at ps qs parent name g (inl again) = (record again.node { count = again.node.count + 1 }, ap (λ (l : Lookup). l g.number) again.nodes ∙ with_same at g.number (record again.node { count = again.node.count + 1 }), again.named)
  named at new_at ps qs parent name g (inr born) = (newborn g parent name, ap (λ (l : Lookup). l g.number) born.nodes ∙ with_same at g.number (newborn g parent name), refl)

  named_all : (owners : RequestsInFlight) (at new_at : Lookup) (ps qs : Periods) (key : Key) (g : Given) → EntersAll owners at ps (key ∷ []) (true ∷ []) (Some g ∷ []) new_at qs → IsNamed new_at g.number key.parent key.name
  named_all owners at new_at ps qs key g (free, (m, rs, enters, same)) = subst (λ (l : Lookup). IsNamed l g.number key.parent key.name) (sym same.0) (named at m ps rs key.parent key.name g enters)

  -- the file that is opened with the only name
  abbrev entering : Entered → Option Opening → Act
  entering entries o = record { found = one_found (is_page entries) (keys_in entries); change = stays; opens = o }

  pub ends_entry : (entries : Entered) (answer : Answer) (e : Ends old id f (entering entries None) (keys_in entries) answer (world_of mid)) → answer.opened ≡ None → (o : Opening_) (entered : Option Given)
      → IsGivenFor mid entries answer.given entered → OpensGiven mid id o entered opened new
      → Ends old id f (entering entries (with_in o entries)) (keys_in entries) (record answer { opened = opened }) (world_of new)
  ends_entry entries answer e unopened opens.Nothing entered given it = base (entering entries None) (keys_in entries) answer e refl unopened it.0 it.1
  ends_entry entries answer e unopened (opens.Node number access) entered given it = base (entering entries None) (keys_in entries) answer e refl unopened it.0 it.1
  ends_entry Nothing answer e unopened (opens.Entry access) None given it = base (entering Nothing None) [] answer e refl unopened it.0 it.1
  ends_entry Nothing answer e unopened (opens.Entry access) (Some g) given it = absurd (none-some g (sym given))
  ends_entry (One keys) answer e unopened (opens.Entry access) None given it = absurd (none-some given.0 given.1)
  ends_entry (One keys) answer e unopened (opens.Entry access) (Some g) given it =
      let key = keys.key in
      let same : given.0 ≡ g = sym (same_Some g given.0 given.1) in
      let list : answer.given ≡ Some g ∷ [] = given.2 ∙ ap (λ (h : Given). let hs : List (Option Given) = Some h ∷ [] in hs) same in
      let enters = subst (λ (gs : List (Option Given)). EntersAll (with_entry old.flights id (Some (answered f [] None))) old.at old.postings (key ∷ []) (true ∷ []) gs e.entered (world_of mid).postings) list e.enters in
      let there : IsNamed e.altered g.number key.parent key.name = subst (λ (l : Lookup). IsNamed l g.number key.parent key.name) (sym e.alters) (named_all (with_entry old.flights id (Some (answered f [] None))) old.at e.entered old.postings (world_of mid).postings key g enters) in
      one (entering (One keys) None) (key ∷ []) answer e refl (record { target = name_at key; access = access }) g.number there it.0 it.1
  ends_entry (Page keys) answer e unopened (opens.Entry access) None given it = base (entering (Page keys) None) (keys_in (Page keys)) answer e refl unopened it.0 it.1
  ends_entry (Page keys) answer e unopened (opens.Entry access) (Some g) given it = absurd (none-some g (sym given))
