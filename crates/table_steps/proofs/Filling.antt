-- Entries that are given name by name, in order.
use Rattle.std.proofs.Common.{ℕ, ◌+◌, ◌<◌, ◌≡◌, ◌==◌, ◌++◌, ◌↔◌, Bool, true, false, List, [], ◌∷◌, Contains, Option, Some, None, append_assoc, get_or, length, take, refl, sym, ap, ◌∙◌, subst, inl, inr, arith}
use Rattle.std.specs.Prelude.{option_map}
use Rattle.std.specs.Vec.Iter.{into_iter_items, into_iter_len, into_iter_steps}
use Rattle.std.specs.declared.vec.IntoIter.{IntoIter}
use Rattle.std.proofs.lemmas.Bool.{cases_eq, cond-false, cond-true, eq-eqb, ne_eqb}
use Rattle.std.proofs.lemmas.List.{map-append, take_more}
use Rattle.std.proofs.lemmas.Option.{same_Some}
use Rattle.table_files.specs.Handles.{Files}
use Rattle.table_requests.specs.declared.data.RequestInFlight.{RequestInFlight as Recorded}
use Rattle.table_requests.specs.declared.data.Given.{Given}
use Rattle.table_requests.specs.declared.data.Stage.{Stage as Recording}
use Rattle.table_requests.specs.declared.data.Stage.TheVariants as recorded
use Rattle.table_requests.specs.declared.data.Work.{Work as RecordedWork}
use Rattle.table_requests.specs.RequestMaps as flying
use Rattle.table_requests.specs.Listed.{requests_of}
use Rattle.ledger.specs.Periods.{Periods}
use Rattle.paths.specs.Prefixes.{Name, Names}
use Rattle.tree.specs.declared.nodes.Key.{Key}
use Rattle.tree.specs.Places.{Lookup, IsPathOf, IsTree}
use Rattle.tree.proofs.Climbing.{path_same}
use Rattle.table_law.specs.Law.{HaveReasons}
use Rattle.table_footprints.specs.Footprints.{page_keys, stays}
use Rattle.table_steps.specs.declared.state.State.{State}
use Rattle.table_steps.specs.Ending.{EntersName, GivesAll, MayEnter, MayFill, giving}
use Rattle.table_steps.specs.Kept.{flight_of, flights_in, work_of, world_of}
use Rattle.table_steps.specs.Steps.{Ends, EntersAll, HasExclusiveHolder, answered, none_found, numbers_of}
use Rattle.table_steps.specs.World.{AreKept, Answered, RequestInFlight, RequestsInFlight, IsAtWork, Work, World, with_entry}
use Rattle.table_footprints.proofs.Members.{first_in, later_in, only_in}
use Rattle.table_steps.proofs.Ends.{answered_same, entry_same, entry_twice, giving_answered, giving_same, none_entered, none_numbered, nothing_for, working_else}
use Rattle.table_steps.proofs.Reasons.{IsSwept-refl}
use Rattle.table_steps.proofs.Ended.{ended_seen, has_ended, not_ended}
use Rattle.table_steps.proofs.Viewed.{at_work, recorded_at}

-- ---- one more name

entries_push : (flights : RequestsInFlight) (at mid at' : Lookup) (ps qs ps' : Periods) (keys : List Key) (found : List Bool) (given : List (Option Given)) (key : Key) (b : Bool) (g : Option Given)
    → EntersAll flights at ps keys found given mid qs → EntersAll flights mid qs (key ∷ []) (b ∷ []) (g ∷ []) at' ps'
    → EntersAll flights at ps (keys ++ key ∷ []) (found ++ b ∷ []) (given ++ g ∷ []) at' ps'
entries_push flights at mid at' ps qs ps' (k ∷ keys) (true ∷ found) (Some h ∷ given) key b g (free, (m, rs, enters, more)) one =
    (free, (m, rs, enters, entries_push flights m mid at' rs qs ps' keys found given key b g more one))
entries_push flights at mid at' ps qs ps' (k ∷ keys) (true ∷ found) (None ∷ given) key b g (owned, more) one =
    (owned, entries_push flights at mid at' ps qs ps' keys found given key b g more one)
entries_push flights at mid at' ps qs ps' (k ∷ keys) (false ∷ found) (None ∷ given) key b g more one = entries_push flights at mid at' ps qs ps' keys found given key b g more one
entries_push flights at mid at' ps qs ps' [] [] [] key b g same one =
    subst (λ (a : Lookup). EntersAll flights a ps (key ∷ []) (b ∷ []) (g ∷ []) at' ps') same.0 (subst (λ (rs : Periods). EntersAll flights mid rs (key ∷ []) (b ∷ []) (g ∷ []) at' ps') same.1 one)
entries_push flights at mid at' ps qs ps' keys found given key b g bad one = absurd bad

-- if the same names are held exclusively, the same entries are given
entries_owners : (f g : RequestsInFlight) → ((at : Lookup) (key : Key) → HasExclusiveHolder at f key ↔ HasExclusiveHolder at g key) → (at at' : Lookup) (ps ps' : Periods) (keys : List Key) (found : List Bool) (given : List (Option Given))
    → EntersAll f at ps keys found given at' ps' → EntersAll g at ps keys found given at' ps'
entries_owners f g same at at' ps ps' (key ∷ keys) (true ∷ found) (Some h ∷ given) (free, (mid, qs, enters, more)) =
    (λ o. free ((same at key).1 o), (mid, qs, enters, entries_owners f g same mid at' qs ps' keys found given more))
entries_owners f g same at at' ps ps' (key ∷ keys) (true ∷ found) (None ∷ given) (owned, more) = ((same at key).0 owned, entries_owners f g same at at' ps ps' keys found given more)
entries_owners f g same at at' ps ps' (key ∷ keys) (false ∷ found) (None ∷ given) more = entries_owners f g same at at' ps ps' keys found given more
entries_owners f g same at at' ps ps' [] [] [] is = is
entries_owners f g same at at' ps ps' keys found given bad = absurd bad

-- a request in progress is not answered
still_working : (flights : RequestsInFlight) (id : ℕ) (f : RequestInFlight) (x : Option RequestInFlight) → flights id ≡ Some f → has_ended f.stage ≡ true → (k : ℕ) (g : RequestInFlight) (work : Work) → IsAtWork flights k g work → IsAtWork (with_entry flights id x) k g work
still_working flights id f x here idle k g work at = elim (cases_eq id k) [
  | inl e ↦
      let same : f ≡ g = same_Some f g (sym here ∙ (ap flights e ∙ at.here)) in
      absurd (not_ended f work (ap (λ (w : RequestInFlight). w.stage) same ∙ at.working) idle)
  | inr ne ↦ record { here = cond-false (id == k) x (flights k) (ne_eqb id k ne) ∙ at.here; working = at.working }
]

owned_same : (flights : RequestsInFlight) (id : ℕ) (f : RequestInFlight) (given : List (Option Given)) → flights id ≡ Some f → has_ended f.stage ≡ true → (at : Lookup) (key : Key) → HasExclusiveHolder at (with_entry flights id (Some (giving f given))) key ↔ HasExclusiveHolder at flights key
owned_same flights id f given here idle at key = (
  λ o. record { path = o.path; leads = o.leads; id = o.id; flight = o.flight; work = o.work; here = working_else flights id (giving f given) idle o.id o.flight o.work o.here; exclusive = o.exclusive },
  λ o. record { path = o.path; leads = o.leads; id = o.id; flight = o.flight; work = o.work; here = still_working flights id f (Some (giving f given)) here idle o.id o.flight o.work o.here; exclusive = o.exclusive },
)

numbers_push : (given : List (Option Given)) (g : Option Given) → numbers_of (given ++ g ∷ []) ≡ numbers_of given ++ numbers_of (g ∷ [])
numbers_push [] g = refl
numbers_push (None ∷ given) g = numbers_push given g
numbers_push (Some h ∷ given) g = ap (λ (ns : List ℕ). h.number ∷ ns) (numbers_push given g)

giving_push : (f : RequestInFlight) (given : List (Option Given)) (g : Option Given) → giving (giving f given) (g ∷ []) ≡ giving f (given ++ g ∷ [])
giving_push f given g = ap (λ (ps : List ℕ). let r : RequestInFlight = record f { pins = ps } in r)
    (append_assoc f.pins (numbers_of given) (numbers_of (g ∷ [])) ∙ ap (λ (ns : List ℕ). f.pins ++ ns) (sym (numbers_push given g)))

pub gives_push : (old mid new : World) (id : ℕ) (f h : RequestInFlight) (keys : List Key) (found : List Bool) (given : List (Option Given)) (key : Key) (b : Bool) (g : Option Given) → old.flights id ≡ Some f → has_ended f.stage ≡ true → mid.flights id ≡ Some h
    → GivesAll old id f keys found given mid → GivesAll mid id h (key ∷ []) (b ∷ []) (g ∷ []) new → GivesAll old id f (keys ++ key ∷ []) (found ++ b ∷ []) (given ++ g ∷ []) new
gives_push old mid new id f h keys found given key b g here idle there before one =
    let now : mid.flights ≡ with_entry old.flights id (Some (giving f given)) = ap (λ (w : World). w.flights) before.new_is in
    let at_id : with_entry old.flights id (Some (giving f given)) id ≡ Some (giving f given) = cond-true (id == id) (Some (giving f given)) (old.flights id) (eq-eqb id id refl) in
    let same : h ≡ giving f given = same_Some h (giving f given) (sym there ∙ (ap (λ (fs : RequestsInFlight). fs id) now ∙ at_id)) in
    let owners : (at : Lookup) (k : Key) → HasExclusiveHolder at mid.flights k ↔ HasExclusiveHolder at old.flights k = subst (λ (fs : RequestsInFlight). (at : Lookup) (k : Key) → HasExclusiveHolder at fs k ↔ HasExclusiveHolder at old.flights k) (sym now) (owned_same old.flights id f given here idle) in
    let last : with_entry mid.flights id (Some (giving h (g ∷ []))) ≡ with_entry old.flights id (Some (giving f (given ++ g ∷ []))) =
    ap (λ (r : RequestInFlight). with_entry mid.flights id (Some (giving r (g ∷ [])))) same
    ∙ (ap (λ (fs : RequestsInFlight). with_entry fs id (Some (giving (giving f given) (g ∷ [])))) now
    ∙ (entry_twice old.flights id (Some (giving f given)) (Some (giving (giving f given) (g ∷ [])))
    ∙ ap (λ (r : RequestInFlight). with_entry old.flights id (Some r)) (giving_push f given g))) in
    record {
      enters = entries_push old.flights old.at mid.at new.at old.postings mid.postings new.postings keys found given key b g before.enters
          (entries_owners mid.flights old.flights owners mid.at new.at mid.postings new.postings (key ∷ []) (b ∷ []) (g ∷ []) one.enters);
      new_is = one.new_is
          ∙ (ap (λ (w : World). let v : World = record w { at = new.at; postings = new.postings; flights = with_entry mid.flights id (Some (giving h (g ∷ []))) } in v) before.new_is
          ∙ ap (λ (fs : RequestsInFlight). let v : World = record old { at = new.at; postings = new.postings; flights = fs } in v) last);
    }

-- ---- one name, and none

pub gives_one : (old new : World) (id : ℕ) (f : RequestInFlight) (key : Key) (g : Given) → (HasExclusiveHolder old.at old.flights key → ⊥) → EntersName old id f key g new → GivesAll old id f (key ∷ []) (true ∷ []) (Some g ∷ []) new
gives_one old new id f key g free one = record { enters = (free, (new.at, new.postings, one.enters, (refl, refl))); new_is = one.new_is }

-- the same world, if nothing is given
same_world : (w : World) (id : ℕ) (f : RequestInFlight) (given : List (Option Given)) → w.flights id ≡ Some f → numbers_of given ≡ [] → w ≡ record w { flights = with_entry w.flights id (Some (giving f given)) }
same_world w id f given here none =
    let same : with_entry w.flights id (Some (giving f given)) ≡ w.flights =
    ap (λ (g : RequestInFlight). with_entry w.flights id (Some g)) (giving_same f given none) ∙ entry_same w.flights id (Some f) here in
    ap (λ (fs : RequestsInFlight). let v : World = record w { flights = fs } in v) (sym same)

pub gives_none : (w : World) (id : ℕ) (f : RequestInFlight) (keys : List Key) → w.flights id ≡ Some f → GivesAll w id f keys (none_found keys) (nothing_for keys) w
gives_none w id f keys here = record { enters = none_entered w.flights w.at w.postings keys; new_is = same_world w id f (nothing_for keys) here (none_numbered keys) }

pub gives_owned : (w : World) (id : ℕ) (f : RequestInFlight) (key : Key) → w.flights id ≡ Some f → HasExclusiveHolder w.at w.flights key → GivesAll w id f (key ∷ []) (true ∷ []) (None ∷ []) w
gives_owned w id f key here owned = record { enters = (owned, (refl, refl)); new_is = same_world w id f (None ∷ []) here refl }

-- only entries are the end of a request
pub ends_given : (old new : World) (id : ℕ) (f : RequestInFlight) (keys : List Key) (found : List Bool) (given : List (Option Given)) (kept : ℕ → Bool) → old.flights id ≡ Some f → f.stage ≡ Answered (length f.pins) None → AreKept new.flights new.files kept → HaveReasons new.at kept
    → GivesAll old id f keys found given new → Ends old id f (record { found = found; change = stays; opens = None }) keys (record { id = id; given = given; lost = false; opened = None }) new
ends_given old new id f keys found given kept here idle keeps reasons gives =
    let owners : with_entry old.flights id (Some (answered f [] None)) ≡ old.flights =
    ap (λ (g : RequestInFlight). with_entry old.flights id (Some g)) (answered_same f [] idle refl) ∙ entry_same old.flights id (Some f) here in
    let now = with_entry old.flights id (Some (answered f given None)) in
    let pinned : with_entry old.flights id (Some (giving f given)) ≡ now = ap (λ (g : RequestInFlight). with_entry old.flights id (Some g)) (giving_answered f given idle) in
    let files : new.files ≡ old.files = ap (λ (w : World). w.files) gives.new_is in
    let last : new.last_handle ≡ old.last_handle = ap (λ (w : World). w.last_handle) gives.new_is in
    record {
      answer_id = refl;
      not_lost = refl;
      entered = new.at;
      enters = subst (λ (fs : RequestsInFlight). EntersAll fs old.at old.postings keys found given new.at new.postings) (sym owners) gives.enters;
      altered = new.at;
      alters = refl;
      opens = (refl, files, last);
      sweeps = record { kept = kept; keeps = keeps; swept = IsSwept-refl kept new.at; reasons = reasons };
      new_is = gives.new_is
          ∙ (ap (λ (fs : RequestsInFlight). let w : World = record old { at = new.at; postings = new.postings; flights = fs } in w) pinned
          ∙ (ap (λ (fs : Files). let w : World = record old { at = new.at; postings = new.postings; flights = now; files = fs } in w) (sym files)
          ∙ ap (λ (n : ℕ). let w : World = record old { at = new.at; postings = new.postings; flights = now; files = new.files; last_handle = n } in w) (sym last)));
    }

-- ---- exclusive holders of a name

owner_in : (st : Recording) (path : Names) → flying.HoldsExclusively st path → (v : RecordedWork) × (st ≡ recorded.Working v) × Contains v.held.exclusive path
owner_in (recorded.Working v) path exclusive = (v, refl, exclusive)
owner_in (recorded.Answered before opened) path bad = absurd bad

pub owned_seen : (at : Lookup) (all : flying.RequestMaps) (parent : ℕ) (name : Name) (folder : Names) → IsPathOf at parent folder → flying.HasExclusiveHolder all.at (folder ++ name ∷ []) → HasExclusiveHolder at (flights_in all) (record { parent = parent; name = name })
owned_seen at all parent name folder leads o =
    let v = owner_in o.flight.stage (folder ++ name ∷ []) o.exclusive in
    record {
      path = folder ++ name ∷ [];
      leads = record { above = folder; leads = leads; whole = refl };
      id = o.id;
      flight = flight_of o.flight;
      work = work_of v.0;
      here = at_work all o.id o.flight v.0 o.here v.1;
      exclusive = v.2;
    }

pub owned_recorded : (at : Lookup) → IsTree at → (all : flying.RequestMaps) (key : Key) (folder : Names) → IsPathOf at key.parent folder → HasExclusiveHolder at (flights_in all) key → flying.HasExclusiveHolder all.at (folder ++ key.name ∷ [])
owned_recorded at tree all key folder leads o =
    let it = recorded_at all o.id o.flight o.work o.here in
    let path : o.path ≡ folder ++ key.name ∷ [] = o.leads.whole ∙ ap (λ (up : Names). up ++ key.name ∷ []) (path_same at tree.rooted o.leads.above folder key.parent o.leads.leads leads) in
    let exclusive : Contains it.work_record.held.exclusive (folder ++ key.name ∷ []) =
    subst (λ (w : Work). Contains w.held.exclusive (folder ++ key.name ∷ [])) (sym it.work_is) (subst (λ (p : Names). Contains o.work.held.exclusive p) path o.exclusive) in
    record { id = o.id; flight = it.flight; here = it.here; exclusive = subst (λ (st : Recording). flying.HoldsExclusively st (folder ++ key.name ∷ [])) (sym it.working) exclusive }

-- ---- what is promised for the remaining names

module _ (s : State) (id : ℕ) (key : Key) (rest : List Key) (fill : MayFill s id (key ∷ rest)) where
  pub may_first : MayEnter s id (key ∷ [])
  may_first = record {
    flight = fill.flight;
    here = fill.here;
    answered = fill.answered;
    pin_room = omega (arith, fill.pin_room);
    leads = λ k h. fill.leads k (subst (λ (j : Key). Contains (key ∷ rest) j) (only_in key k h) (first_in key rest));
    promise = record { nodes = 1; postings = 3; files = 0 };
    births = inl refl;
    postings = refl;
    room = record {
      nodes = omega (arith, fill.room.nodes);
      births = omega (arith, fill.room.births);
      postings = λ b. omega (arith, fill.room.postings b);
      at_once = λ f. omega (arith, fill.room.at_once f);
      nodes_within = omega (arith, fill.room.nodes_within);
      postings_within = λ b. omega (arith, fill.room.postings_within b);
      entries = omega (arith, fill.room.entries);
      files = omega (arith, fill.room.files);
      files_within = omega (arith, fill.room.files_within);
      handles = omega (arith, fill.room.handles);
    };
    few = λ f. omega (arith, fill.few f);
  }

  pub fill_less : MayFill s id rest
  fill_less = record {
    flight = fill.flight;
    here = fill.here;
    answered = fill.answered;
    pin_room = omega (arith, fill.pin_room);
    leads = λ k h. fill.leads k (later_in key rest k h);
    room = record {
      nodes = omega (arith, fill.room.nodes);
      births = omega (arith, fill.room.births);
      postings = λ b. omega (arith, fill.room.postings b);
      at_once = λ f. omega (arith, fill.room.at_once f);
      nodes_within = omega (arith, fill.room.nodes_within);
      postings_within = λ b. omega (arith, fill.room.postings_within b);
      entries = omega (arith, fill.room.entries);
      files = omega (arith, fill.room.files);
      files_within = omega (arith, fill.room.files_within);
      handles = omega (arith, fill.room.handles);
    };
    few = λ f. omega (arith, fill.few f);
  }

-- the names of a page come one by one with their copies
pub next_copy : {X Z : Type 0} → (s t : IntoIter X Z) (o : Option X) (x : X) (rest : List X) → into_iter_items s ≡ x ∷ rest → length (x ∷ rest) ≡ into_iter_len s → into_iter_steps s o t → (into_iter_items t ≡ rest) × (into_iter_len t + 1 ≡ into_iter_len s)
next_copy s t None x rest items len steps = absurd (omega (arith, steps.0, len))
next_copy s t (Some y) x rest items len steps =
    let both : y ∷ into_iter_items t ≡ x ∷ rest = sym steps.0 ∙ items in
    let same : into_iter_items t ≡ rest = cc in
    (same, steps.1)

pub keys_push : (folder : ℕ) (names : List Name) (name : Name) → page_keys folder (names ++ name ∷ []) ≡ page_keys folder names ++ record { parent = folder; name = name } ∷ []
keys_push folder names name = map-append (λ (x : Name). let key : Key = record { parent = folder; name = x } in key) names (name ∷ [])

pub found_more : (found : List Bool) (i : ℕ) → i < length found → take (i + 1) found ≡ take i found ++ get_or found i false ∷ []
found_more found i within = take_more found i false within

-- nothing for one more name
pub nothing_more : (keys : List Key) (i : ℕ) → i < length keys → nothing_for (take (i + 1) keys) ≡ nothing_for (take i keys) ++ None ∷ []
nothing_more keys i within =
    let none : Key = record { parent = 0; name = [] } in
    ap nothing_for (take_more keys i none within) ∙ map-append (λ (key : Key). let n : Option Given = None in n) (take i keys) (get_or keys i none ∷ [])

-- ---- a request whose work has ended

module _ (s : State) (id : ℕ) (x : Recorded) (there : (requests_of s.flights).at id ≡ Some x) (idle : flying.is_working x.stage ≡ false) (f : Recorded) (here : (requests_of s.flights).at id ≡ Some f) where
  pub seen_here : (world_of s).flights id ≡ Some (flight_of f)
  seen_here = ap (λ o. option_map flight_of o) here

  pub seen_idle : has_ended (flight_of f).stage ≡ true
  seen_idle = ended_seen f.stage (subst (λ (r : Recorded). flying.is_working r.stage ≡ false) (same_Some x f (sym there ∙ here)) idle)

  pub none_given : (keys : List Key) → GivesAll (world_of s) id (flight_of f) keys (none_found keys) (nothing_for keys) (world_of s)
  none_given keys = gives_none (world_of s) id (flight_of f) keys seen_here
