-- What one request holds exclusively is not a prefix of a path whose prefixes another holds, so its changes do not
-- affect that path.
use Rattle.std.proofs.Common.{ℕ, zero, suc, ◌+◌, ◌≡◌, ◌≢◌, Bool, true, false, List, [], ◌∷◌, ◌++◌, Option, Some, None, Contains, reverse, refl, sym, ap, ◌∙◌, subst, inl, inr}
use Rattle.std.specs.List.{slice_get}
use Rattle.std.proofs.lemmas.Bool.{cases_Bool}
use Rattle.paths.specs.Prefixes.{Name, Names, is_prefix}
use Rattle.holds.specs.declared.held.Held.{Held}
use Rattle.holds.specs.Conflicts.{Conflict, IsHeld}
use Rattle.tree.specs.declared.nodes.Node.{Node}
use Rattle.tree.specs.Places.{Lookup, IsNamed, IsPathOf, IsTree, Reaches}
use Rattle.tree.specs.Moves.{Stands, Where, after_cut, after_exchange, after_move, at_path}
use Rattle.tree.proofs.Transfers.{path_after_cut, path_after_exchange, path_after_move}
use Rattle.table_requests.specs.declared.data.Given.{Given}
use Rattle.ledger.specs.Periods.{Periods}
use Rattle.tree.specs.declared.nodes.Key.{Key}
use Rattle.tree.proofs.LookupLemmas.{cases_option}
use Rattle.table_steps.specs.Entries.{Enters, newborn}
use Rattle.table_steps.specs.Swept.{IsSwept}
use Rattle.table_steps.proofs.Remaining.{HoldsPrefixes, named_born, named_written, stays_pinned}
use Rattle.std.proofs.lemmas.Option.{none-some, same_Some}
use Rattle.table_requests.specs.declared.data.Case.{Case}
use Rattle.table_requests.specs.declared.data.Want.{Want}
use Rattle.table_steps.specs.declared.data.Outcome.{Outcome}
use Rattle.table_steps.specs.declared.data.Outcome.TheVariants.{Done, Entries, Entry, Failed, Hidden, HiddenMove}
use Rattle.table_footprints.specs.Asked.{HasPath, Holds}
use Rattle.table_footprints.specs.Laws.{AreOwn, IsGrounded}
use Rattle.table_steps.specs.Laws.{AreEntriesHarmless, AreOthersLeft, AreSweepsHarmless, IsPlaced, LeavesWork}
use Rattle.table_footprints.specs.Footprints.{AtName, AtNode, Change, Footprint, Location, cuts, exchanges, hides, moves, replaces, footprint_of, stays}
use Rattle.table_steps.specs.Steps.{Alters, EntersAll, Follows, Hides, HoldsUp, Marks, Moves, act_of, after_follow, hiding_at, none_there, one_there, replacing_at}
use Rattle.table_steps.specs.World.{RequestInFlight, RequestsInFlight, IsAtWork, Work}
use Rattle.table_footprints.proofs.Members.{any_in, first_in, later_in}
use Rattle.table_footprints.proofs.FootprintLemmas.{are_grounded}
use Rattle.table_steps.proofs.Following.{path_follows}
use Rattle.table_steps.proofs.Landing.{cut_from, exchanged_from, followed_from, marks_keep, moved_from, stands_kept}
use Rattle.table_steps.proofs.Staying.{KeepsPaths, paths_kept, ready_kept}

-- ---- acts change no names except those that their footprints hold exclusively

pub candidate_in : (ls : List Location) (i : ℕ) (l : Location) → slice_get ls i ≡ Some l → Contains ls l
candidate_in [] i l e = absurd (none-some l e)
candidate_in (m ∷ ls) zero l e = subst (λ k. Contains (m ∷ ls) k) (same_Some m l e) (first_in m ls)
candidate_in (m ∷ ls) (suc i) l e = later_in m ls l (candidate_in ls i l e)

pub hiding_own : (exclusive : List Location) (change : Change) (o : Option Location) → AreOwn exclusive change → ((l : Location) → o ≡ Some l → Contains exclusive l) → AreOwn exclusive (hiding_at change o)
hiding_own exclusive stays o own among = tt
hiding_own exclusive (cuts (AtNode n)) o own among = tt
hiding_own exclusive (cuts (AtName p a)) None own among = tt
hiding_own exclusive (cuts (AtName p a)) (Some c) own among = (own, among c refl)
hiding_own exclusive (moves s t) o own among = tt
hiding_own exclusive (hides l c) o own among = tt
hiding_own exclusive (replaces s t c m) o own among = tt
hiding_own exclusive (exchanges s t) o own among = tt

pub replacing_own : (exclusive : List Location) (change : Change) (o : Option Location) (moved : Bool) → AreOwn exclusive change → ((l : Location) → o ≡ Some l → Contains exclusive l) → AreOwn exclusive (replacing_at change o moved)
replacing_own exclusive stays o moved own among = tt
replacing_own exclusive (cuts l) o moved own among = tt
replacing_own exclusive (moves s t) None moved own among = tt
replacing_own exclusive (moves s t) (Some c) moved own among = (own.0, own.1, among c refl)
replacing_own exclusive (hides l c) o moved own among = tt
replacing_own exclusive (replaces s t c m) o moved own among = tt
replacing_own exclusive (exchanges s t) o moved own among = tt

pub act_own : (d : Footprint) → IsGrounded d → (outcome : Outcome) → AreOwn d.exclusive (act_of d outcome).change
act_own d footprint Failed = tt
act_own d footprint Done = footprint.own
act_own d footprint Entry = tt
act_own d footprint (Entries found) = tt
act_own d footprint (Hidden i) = hiding_own d.exclusive d.done (slice_get d.candidates i) footprint.own (λ l e. footprint.hidden l (candidate_in d.candidates i l e))
act_own d footprint (HiddenMove i moved) = replacing_own d.exclusive d.done (slice_get d.candidates i) moved footprint.own (λ l e. footprint.hidden l (candidate_in d.candidates i l e))

pub acts_own : (want : Want) (case : Case) (outcome : Outcome) → AreOwn (footprint_of want case).exclusive (act_of (footprint_of want case) outcome).change
acts_own want case outcome = act_own (footprint_of want case) (are_grounded want case) outcome

-- ---- the guard

conflict_at : (r h : Held) (p : Names) → Contains h.exclusive p → IsHeld r p → Conflict r h
conflict_at r h p own (inl shared) = inr (inr (own.0, p, own.1, own.2, shared))
conflict_at r h p own (inr exclusive) = inr (inl (own.0, p, own.1, own.2, exclusive))

reaches_named : (old new : Lookup) → ((n p : ℕ) (name : Name) → IsNamed old n p name → IsNamed new n p name) → (n : ℕ) (way : Names) → Reaches old 1 n way → Reaches new 1 n way
reaches_named old new named n [] h = h
reaches_named old new named n (name ∷ way) h = (h.0, named n h.0 name h.1, reaches_named old new named h.0 way h.2)

-- a mark moves nothing
pub path_after_mark : (before old new : Lookup) (l : Location) → Marks before l old new → (n : ℕ) (q : Names) → IsPathOf old n q → IsPathOf new n q
path_after_mark before old new l (none_there none same) n q h = subst (λ (at : Lookup). IsPathOf at n q) (sym same) h
path_after_mark before old new l (one_there m x there here same) n q h =
    subst (λ (at : Lookup). IsPathOf at n q) (sym same) (reaches_named old _ (named_written old m x (record x { hidden = true }) here refl) n (reverse q) h)

-- there is no conflict with these paths, so none of them is a prefix of a path whose prefixes another request holds
guard : (flights : RequestsInFlight) (held : Held) (p : Names) → (HoldsUp flights held → ⊥) → Contains held.exclusive p → p ≢ []
    → (id : ℕ) (f : RequestInFlight) (work : Work) → IsAtWork flights id f work → (q : Names) → HoldsPrefixes work.held q → is_prefix p q ≡ false
guard flights held p clear own some id f work here q prefixes = elim (cases_Bool (is_prefix p q)) [
  | inl prefix ↦ absurd (clear (record { id = id; flight = f; work = work; here = here; conflict = conflict_at work.held held p own (prefixes p (record { some = some; begins = prefix })) }))
  | inr none ↦ none
]

pub not_empty : (p : Names) (name : List ℕ) → p ++ name ∷ [] ≢ []
not_empty [] name e = cc
not_empty (x ∷ p) name e = cc

-- the path of a location other than the root's is not empty
pub path_some : (at : Lookup) (l : Location) (exclusive : List Location) → IsPlaced exclusive → Contains exclusive l → (p : Names) → HasPath at l p → p ≢ []
path_some at (AtNode n) exclusive placed among p leads e =
    let one : n ≡ 1 = subst (λ r. IsPathOf at n r) e leads in
    placed (subst (λ k. Contains exclusive (AtNode k)) one among)
path_some at (AtName parent name) exclusive placed among p leads e = not_empty leads.above name (sym leads.whole ∙ e)

module _ (old : Lookup) (flights : RequestsInFlight) (d : Footprint) (held : Held) (holds : Holds old d held) (clear : HoldsUp flights held → ⊥) (placed : IsPlaced d.exclusive)
    (id : ℕ) (f : RequestInFlight) (work : Work) (here : IsAtWork flights id f work) (q : Names) (prefixes : HoldsPrefixes work.held q) where
  -- no location that is held exclusively is a prefix of that path
  apart : (l : Location) → Contains d.exclusive l → (p : Names) → HasPath old l p → is_prefix p q ≡ false
  apart l among p leads =
      guard flights held p clear ((holds.exclusive p).1 (any_in (λ m. HasPath old m p) d.exclusive l among leads)) (path_some old l d.exclusive placed among p leads) id f work here q prefixes

  moved_away : (s t : Location) → Contains d.exclusive s → Contains d.exclusive t → (new : Lookup) → Moves old s t new → (n : ℕ) → IsPathOf old n q → IsPathOf new n q
  moved_away s t own_s own_t new m n h = path_after_move old new m.path m.new_path m.changes n q (apart t own_t m.new_path m.new_leads) (apart s own_s m.path m.leads) h

  hidden_away : (l c : Location) → Contains d.exclusive l → Contains d.exclusive c → (new : Lookup) → Hides old l c new → (n : ℕ) → IsPathOf old n q → IsPathOf new n q
  hidden_away l c own_l own_c new it n h = path_after_mark old it.mid new l it.marks n q (moved_away l c own_l own_c it.mid it.moves n h)

  pub path_stays : (change : Change) (new : Lookup) → AreOwn d.exclusive change → Alters old change new → (n : ℕ) → IsPathOf old n q → IsPathOf new n q
  path_stays stays new own same n h = subst (λ at. IsPathOf at n q) (sym same) h
  path_stays (cuts l) new own it n h = path_after_cut old new it.path it.changes n q (apart l own it.path it.leads) h
  path_stays (moves s t) new own it n h = moved_away s t own.0 own.1 new it n h
  path_stays (exchanges s t) new own it n h = path_after_exchange old new it.path it.new_path it.changes n q (apart t own.1 it.new_path it.new_leads) (apart s own.0 it.path it.leads) h
  path_stays (hides l c) new own it n h = hidden_away l c own.0 own.1 new it n h
  path_stays (replaces s t c moved) new own it n h =
      path_follows it.hidden new it.hides.moves.new_path it.path it.new_path moved it.follows n q (apart t own.1 it.new_path it.new_leads) (apart s own.0 it.path it.leads) (hidden_away t c own.1 own.2 it.hidden it.hides n h)

  moves_to : (s t : Location) → Contains d.exclusive s → Contains d.exclusive t → (new : Lookup) → Moves old s t new → (n : ℕ) (w : Where) → Stands old n w → (v : Where) × Stands new n v × (v ≡ at_path q → w ≡ at_path q)
  moves_to s t own_s own_t new m n w h = (after_move m.path m.new_path w, m.changes.moved n w h, moved_from m.path m.new_path q (apart t own_t m.new_path m.new_leads) w)

  hides_to : (l c : Location) → Contains d.exclusive l → Contains d.exclusive c → (new : Lookup) → Hides old l c new → (n : ℕ) (w : Where) → Stands old n w → (v : Where) × Stands new n v × (v ≡ at_path q → w ≡ at_path q)
  hides_to l c own_l own_c new it n w h =
      let m = moves_to l c own_l own_c it.mid it.moves n w h in
      (m.0, stands_kept it.mid new (marks_keep old it.mid new l it.marks) n m.0 m.1, m.2)

  follows_to : (hidden new : Lookup) (c p t : Names) (moved : Bool) → is_prefix t q ≡ false → Follows hidden c p t moved new → (n : ℕ) (w : Where) → Stands hidden n w → (v : Where) × Stands new n v × (v ≡ at_path q → w ≡ at_path q)
  follows_to hidden new c p t false beside same n w h = (w, subst (λ (at : Lookup). Stands at n w) (sym same) h, λ e. e)
  follows_to hidden new c p t true beside changes n w h = (after_follow c p t w, changes.moved n w h, followed_from c p t q beside w)

  -- a node that is at that path afterwards was there before
  pub lands : (change : Change) (new : Lookup) → AreOwn d.exclusive change → Alters old change new → (n : ℕ) (w : Where) → Stands old n w → (v : Where) × Stands new n v × (v ≡ at_path q → w ≡ at_path q)
  lands stays new own same n w h = (w, subst (λ (at : Lookup). Stands at n w) (sym same) h, λ e. e)
  lands (cuts l) new own it n w h = (after_cut it.path w, it.changes.moved n w h, cut_from it.path q w)
  lands (moves s t) new own it n w h = moves_to s t own.0 own.1 new it n w h
  lands (exchanges s t) new own it n w h =
      (after_exchange it.path it.new_path w, it.changes.moved n w h, exchanged_from it.path it.new_path q (apart t own.1 it.new_path it.new_leads) (apart s own.0 it.path it.leads) w)
  lands (hides l c) new own it n w h = hides_to l c own.0 own.1 new it n w h
  lands (replaces s t c moved) new own it n w h =
      let hid = hides_to t c own.1 own.2 it.hidden it.hides n w h in
      let on = follows_to it.hidden new it.hides.moves.new_path it.path it.new_path moved (apart t own.1 it.new_path it.new_leads) it.follows n hid.0 hid.1 in
      (on.0, on.1, λ e. hid.2 (on.2 e))

-- if all its paths are unaffected, so is the request
pub left_where : (old new : Lookup) (flights : RequestsInFlight) → IsTree new → ((id : ℕ) (f : RequestInFlight) (work : Work) → IsAtWork flights id f work → KeepsPaths old new f.pins work.held) → LeavesWork old new flights
left_where old new flights tree' keeps = record {
  ready = λ id f work here ready. ready_kept old new tree' f work (keeps id f work here) ready;
  paths = λ id f work here ready paths are. paths_kept old new tree' f work (keeps id f work here) ready paths are;
}

pub others_left : AreOthersLeft
others_left old new flights d held change tree' holds clear placed own alters =
    left_where old new flights tree' (λ id f work here n pin q prefixes h. path_stays old flights d held holds clear placed id f work here q prefixes change new own alters n h)

-- ---- entries

pub entered_way : (at : Lookup) (ps : Periods) (parent : ℕ) (name : Name) (g : Given) (at' : Lookup) (qs : Periods) → Enters at ps parent name g at' qs → (n : ℕ) (way : Names) → Reaches at 1 n way → Reaches at' 1 n way
entered_way at ps parent name g at' qs (inl again) n way h =
    subst (λ (l : Lookup). Reaches l 1 n way) (sym again.nodes) (reaches_named at _ (named_written at g.number again.node (record again.node { count = again.node.count + 1 }) again.here refl) n way h)
entered_way at ps parent name g at' qs (inr born) n way h =
    subst (λ (l : Lookup). Reaches l 1 n way) (sym born.nodes) (reaches_named at _ (named_born at g.number (newborn g parent name) born.fresh) n way h)

pub entered_path : (at : Lookup) (ps : Periods) (parent : ℕ) (name : Name) (g : Given) (at' : Lookup) (qs : Periods) → Enters at ps parent name g at' qs → (n : ℕ) (q : Names) → IsPathOf at n q → IsPathOf at' n q
entered_path at ps parent name g at' qs enters n q h = entered_way at ps parent name g at' qs enters n (reverse q) h

pub all_entered : (owners : RequestsInFlight) (at at' : Lookup) (ps qs : Periods) (keys : List Key) (found : List Bool) (given : List (Option Given)) → EntersAll owners at ps keys found given at' qs → (n : ℕ) (q : Names) → IsPathOf at n q → IsPathOf at' n q
all_entered owners at at' ps qs (key ∷ keys) (true ∷ found) (Some g ∷ given) (free, (mid, rs, enters, more)) n q h =
    all_entered owners mid at' rs qs keys found given more n q (entered_path at ps key.parent key.name g mid rs enters n q h)
all_entered owners at at' ps qs (key ∷ keys) (true ∷ found) (None ∷ given) (owned, more) n q h = all_entered owners at at' ps qs keys found given more n q h
all_entered owners at at' ps qs (key ∷ keys) (false ∷ found) (None ∷ given) more n q h = all_entered owners at at' ps qs keys found given more n q h
all_entered owners at at' ps qs [] [] [] same n q h = subst (λ l. IsPathOf l n q) (sym same.0) h
all_entered owners at at' ps qs keys found given bad n q h = absurd bad

pub entries_harmless : AreEntriesHarmless
entries_harmless flights owners old new ps qs keys found given tree' enters =
    left_where old new flights tree' (λ id f work here n pin q prefixes h. all_entered owners old new ps qs keys found given enters n q h)

-- ---- sweeps

pub reaches_swept : (kept : ℕ → Bool) (old new : Lookup) → IsSwept kept old new → (n : ℕ) (way : Names) → ((x : Node) → old n ≡ Some x → new n ≡ None → ⊥) → Reaches old 1 n way → Reaches new 1 n way
reaches_swept kept old new swept n [] remains h = h
reaches_swept kept old new swept n (name ∷ way) remains h = elim (cases_option (new n)) [
  | inl none ↦ absurd (remains h.1.0 h.1.1 none)
  | inr (y, now) ↦
      let same : y ≡ h.1.0 = same_Some y h.1.0 (sym (swept.kept n y now) ∙ h.1.1) in
      let named : IsNamed new n h.0 name = (y, now, ap (λ (z : Node). z.place) same ∙ h.1.2) in
      (h.0, named, reaches_swept kept old new swept h.0 way (λ x was none. (swept.gone h.0 x was none).childless (n, name, named)) h.2)
]

pub sweeps_harmless : AreSweepsHarmless
sweeps_harmless flights files old new kept tree' keeps swept =
    left_where old new flights tree' (λ id f work here n pin q prefixes h.
    let held : kept n ≡ true = (keeps n).1 (inl (record { id = id; flight = f; here = here.here; pin = pin })) in
    reaches_swept kept old new swept n (reverse q) (λ x was none. none-some x (sym none ∙ stays_pinned kept old new n x swept was held)) h)
