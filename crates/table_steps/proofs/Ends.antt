-- The end of a request's work: giving nothing, what a change of names leaves, and the world before the request was
-- answered.
use Rattle.std.proofs.Common.{ℕ, ◌+◌, ◌≡◌, ◌==◌, ◌++◌, Bool, true, false, if◌then◌else◌, List, [], ◌∷◌, append-nil, length, Option, Some, None, refl, sym, ap, ◌∙◌, subst, inl, inr}
use Rattle.std.specs.Prelude.{map}
use Rattle.std.proofs.lemmas.Bool.{cases_eq, cond-false, cond-true, eq-eqb, ne_eqb}
use Rattle.std.proofs.lemmas.Option.{same_Some}
use mathlib.Core.Path.{fun_ext}
use Rattle.ledger.specs.Periods.{Periods}
use Rattle.table_requests.specs.declared.data.Given.{Given}
use Rattle.tree.specs.declared.nodes.Key.{Key}
use Rattle.tree.specs.Places.{Lookup}
use Rattle.table_files.specs.Handles.{Files}
use Rattle.table_law.specs.Law.{HaveReasons}
use Rattle.table_footprints.specs.Footprints.{Opening, stays}
use Rattle.table_steps.specs.Answers.{Answer}
use Rattle.table_steps.specs.Ending.{ChangesNames, giving}
use Rattle.table_steps.specs.Steps.{Act, Ends, EntersAll, Opens, answered, numbers_of}
use Rattle.table_steps.specs.World.{AreKept, Answered, RequestInFlight, RequestsInFlight, IsAtWork, Work, World, with_entry}
use Rattle.table_steps.proofs.Reasons.{IsSwept-refl}
use Rattle.table_steps.proofs.Ended.{has_ended, not_ended}

-- ---- look-ups

same_if : {X : Type 0} → (b : Bool) (x y z : X) → (if b then x else (if b then y else z)) ≡ (if b then x else z)
same_if true x y z = refl
same_if false x y z = refl

pub entry_twice : {X : Type 0} → (at : ℕ → Option X) (id : ℕ) (x y : Option X) → with_entry (with_entry at id x) id y ≡ with_entry at id y
entry_twice at id x y = fun_ext (λ k. same_if (id == k) y x (at k))

pub entry_same : {X : Type 0} → (at : ℕ → Option X) (id : ℕ) (x : Option X) → at id ≡ x → with_entry at id x ≡ at
entry_same at id x is = fun_ext (λ k. elim (cases_eq id k) [
  | inl e ↦ cond-true (id == k) x (at k) (eq-eqb id k e) ∙ (sym is ∙ ap at e)
  | inr ne ↦ cond-false (id == k) x (at k) (ne_eqb id k ne)
])

-- the requests in progress other than one that was answered
pub working_else : (flights : RequestsInFlight) (id : ℕ) (h : RequestInFlight) → has_ended h.stage ≡ true → (k : ℕ) (g : RequestInFlight) (work : Work) → IsAtWork (with_entry flights id (Some h)) k g work → IsAtWork flights k g work
working_else flights id h ended k g work at = elim (cases_eq id k) [
  | inl e ↦
      let same : h ≡ g = same_Some h g (sym (cond-true (id == k) (Some h) (flights k) (eq-eqb id k e)) ∙ at.here) in
      absurd (not_ended h work (ap (λ (w : RequestInFlight). w.stage) same ∙ at.working) ended)
  | inr ne ↦ record { here = sym (cond-false (id == k) (Some h) (flights k) (ne_eqb id k ne)) ∙ at.here; working = at.working }
]

-- ---- nothing is given

abbrev pub nothing_for : List Key → List (Option Given)
nothing_for keys = map (λ (key : Key). let none : Option Given = None in none) keys

pub none_entered : (flights : RequestsInFlight) (at : Lookup) (ps : Periods) (keys : List Key) → EntersAll flights at ps keys (map (λ key. false) keys) (nothing_for keys) at ps
none_entered flights at ps [] = (refl, refl)
none_entered flights at ps (key ∷ keys) = none_entered flights at ps keys

pub none_numbered : (keys : List Key) → numbers_of (nothing_for keys) ≡ []
none_numbered [] = refl
none_numbered (key ∷ keys) = none_numbered keys

pub giving_same : (f : RequestInFlight) (given : List (Option Given)) → numbers_of given ≡ [] → giving f given ≡ f
giving_same f given none = ap (λ (ps : List ℕ). let g : RequestInFlight = record f { pins = ps } in g) (ap (λ (ns : List ℕ). f.pins ++ ns) none ∙ append-nil f.pins)

-- what a request gives if it is answered and has given nothing yet
pub giving_answered : (f : RequestInFlight) (given : List (Option Given)) → f.stage ≡ Answered (length f.pins) None → giving f given ≡ answered f given None
giving_answered f given idle = ap (λ s. let g : RequestInFlight = record f { stage = s; pins = f.pins ++ numbers_of given } in g) idle

pub answered_same : (f : RequestInFlight) (given : List (Option Given)) → f.stage ≡ Answered (length f.pins) None → numbers_of given ≡ [] → answered f given None ≡ f
answered_same f given idle none = sym (giving_answered f given idle) ∙ giving_same f given none

answered_twice : (f : RequestInFlight) (given : List (Option Given)) (opened : Option ℕ) → answered (answered f [] None) given opened ≡ answered f given opened
answered_twice f given opened = ap (λ (ps : List ℕ). let g : RequestInFlight = record f { stage = Answered (length ps) opened; pins = ps ++ numbers_of given } in g) (append-nil f.pins)

pub nothing_changes : (w : World) (kept : ℕ → Bool) → AreKept w.flights w.files kept → HaveReasons w.at kept → ChangesNames w stays w
nothing_changes w kept keeps reasons = record { altered = w.at; alters = refl; sweeps = record { kept = kept; keeps = keeps; swept = IsSwept-refl kept w.at; reasons = reasons }; new_is = refl }

-- only a change of names
pub ends_changed : (old new : World) (id : ℕ) (f : RequestInFlight) → old.flights id ≡ Some f → f.stage ≡ Answered (length f.pins) None → (act : Act) (keys : List Key) → act.found ≡ map (λ key. false) keys → act.opens ≡ None → ChangesNames old act.change new
    → Ends old id f act keys (record { id = id; given = nothing_for keys; lost = false; opened = None }) new
ends_changed old new id f here idle act keys found none changes =
    let given = nothing_for keys in
    let owners = with_entry old.flights id (Some (answered f [] None)) in
    let flights : with_entry old.flights id (Some (answered f given None)) ≡ old.flights =
    ap (λ (g : RequestInFlight). with_entry old.flights id (Some g)) (answered_same f given idle (none_numbered keys)) ∙ entry_same old.flights id (Some f) here in
    let postings : new.postings ≡ old.postings = ap (λ (w : World). w.postings) changes.new_is in
    let files : new.files ≡ old.files = ap (λ (w : World). w.files) changes.new_is in
    let last : new.last_handle ≡ old.last_handle = ap (λ (w : World). w.last_handle) changes.new_is in
    record {
      answer_id = refl;
      not_lost = refl;
      entered = old.at;
      enters = subst (λ bs. EntersAll owners old.at old.postings keys bs given old.at new.postings) (sym found)
          (subst (λ ps. EntersAll owners old.at old.postings keys (map (λ key. false) keys) given old.at ps) (sym postings) (none_entered owners old.at old.postings keys));
      altered = changes.altered;
      alters = changes.alters;
      opens = subst (λ (o : Option Opening). Opens changes.altered o old None new.files new.last_handle) (sym none) (refl, files, last);
      sweeps = changes.sweeps;
      new_is = changes.new_is
          ∙ (ap (λ (ps : Periods). let w : World = record old { at = new.at; postings = ps } in w) (sym postings)
          ∙ (ap (λ (fs : RequestsInFlight). let w : World = record old { at = new.at; postings = new.postings; flights = fs } in w) (sym flights)
          ∙ (ap (λ (fs : Files). let w : World = record old { at = new.at; postings = new.postings; flights = with_entry old.flights id (Some (answered f given None)); files = fs } in w) (sym files)
          ∙ ap (λ (n : ℕ). let w : World = record old { at = new.at; postings = new.postings; flights = with_entry old.flights id (Some (answered f given None)); files = new.files; last_handle = n } in w) (sym last))));
    }

-- opening a file depends only on the open files and the last handle
opens_same : (at : Lookup) (o : Option Opening) (v w : World) (opened : Option ℕ) (files : Files) (last : ℕ) → v.files ≡ w.files → v.last_handle ≡ w.last_handle → Opens at o v opened files last → Opens at o w opened files last
opens_same at None v w opened files last e f it = (it.0, it.1 ∙ e, it.2 ∙ f)
opens_same at (Some opening) v w opened files last e f it = record {
  number = it.number;
  there = it.there;
  node = it.node;
  here = it.here;
  last_is = it.last_is ∙ ap (λ (n : ℕ). n + 1) f;
  opened_is = it.opened_is;
  files_are = it.files_are ∙ ap (λ (fs : Files). with_entry fs last (Some (record { number = it.number; generation = it.node.generation; access = opening.access }))) e;
}

-- ---- answered first

-- the end from the world in which the request is already answered is the end from the world before
pub ends_answered : (old mid new : World) (id : ℕ) (f : RequestInFlight) (act : Act) (keys : List Key) (answer : Answer) → mid ≡ record old { flights = with_entry old.flights id (Some (answered f [] None)) }
    → Ends mid id (answered f [] None) act keys answer new → Ends old id f act keys answer new
ends_answered old mid new id f act keys answer is e =
    let first = with_entry old.flights id (Some (answered f [] None)) in
    let at : mid.at ≡ old.at = ap (λ (w : World). w.at) is in
    let flights : mid.flights ≡ first = ap (λ (w : World). w.flights) is in
    let postings : mid.postings ≡ old.postings = ap (λ (w : World). w.postings) is in
    let again : answered (answered f [] None) [] None ≡ answered f [] None = answered_twice f [] None in
    let owners : with_entry mid.flights id (Some (answered (answered f [] None) [] None)) ≡ first =
    ap (λ (g : RequestInFlight). with_entry mid.flights id (Some g)) again ∙ (ap (λ (fs : RequestsInFlight). with_entry fs id (Some (answered f [] None))) flights ∙ entry_twice old.flights id (Some (answered f [] None)) (Some (answered f [] None))) in
    let pins : answered (answered f [] None) answer.given answer.opened ≡ answered f answer.given answer.opened = answered_twice f answer.given answer.opened in
    let last : with_entry mid.flights id (Some (answered (answered f [] None) answer.given answer.opened)) ≡ with_entry old.flights id (Some (answered f answer.given answer.opened)) =
    ap (λ (g : RequestInFlight). with_entry mid.flights id (Some g)) pins ∙ (ap (λ (fs : RequestsInFlight). with_entry fs id (Some (answered f answer.given answer.opened))) flights ∙ entry_twice old.flights id (Some (answered f [] None)) (Some (answered f answer.given answer.opened))) in
    record {
      answer_id = e.answer_id;
      not_lost = e.not_lost;
      entered = e.entered;
      enters = subst (λ (fs : RequestsInFlight). EntersAll fs old.at old.postings keys act.found answer.given e.entered new.postings) owners
          (subst (λ (a : Lookup). EntersAll (with_entry mid.flights id (Some (answered (answered f [] None) [] None))) a old.postings keys act.found answer.given e.entered new.postings) at
          (subst (λ (ps : Periods). EntersAll (with_entry mid.flights id (Some (answered (answered f [] None) [] None))) mid.at ps keys act.found answer.given e.entered new.postings) postings e.enters));
      altered = e.altered;
      alters = e.alters;
      opens = opens_same e.altered act.opens mid old answer.opened new.files new.last_handle (ap (λ (w : World). w.files) is) (ap (λ (w : World). w.last_handle) is) e.opens;
      sweeps = e.sweeps;
      new_is = e.new_is
          ∙ (ap (λ (w : World). let v : World = record w { at = new.at; postings = new.postings; flights = with_entry mid.flights id (Some (answered (answered f [] None) answer.given answer.opened)); files = new.files; last_handle = new.last_handle } in v) is
          ∙ ap (λ (fs : RequestsInFlight). let v : World = record old { at = new.at; postings = new.postings; flights = fs; files = new.files; last_handle = new.last_handle } in v) last);
    }
