-- Requests in flight as the world sees them, and what holds when some of them are no longer in progress.
use Rattle.std.proofs.Common.{ℕ, ◌≡◌, ◌↔◌, ◌==◌, Bool, true, false, if◌then◌else◌, List, [], ◌∷◌, Contains, Option, Some, None, refl, sym, ap, ◌∙◌, subst, inl, inr}
use Rattle.std.specs.Prelude.{option_map}
use Rattle.std.specs.List.{list_any}
use Rattle.std.proofs.lemmas.Bool.{or_cases, or_left, or_right, true≢false, eqb-true, eq-eqb, cases_eq, ne_eqb, cond-true, cond-false}
use Rattle.std.proofs.lemmas.Option.{none-some, same_Some}
use mathlib.Core.Path.{fun_ext}
use Rattle.table_files.specs.OpenEntry.{Filing, files_of}
use Rattle.table_files.specs.Handles.{AreOpenEntries}
use Rattle.table_requests.specs.Listed.{InFlight, requests_of}
use Rattle.table_requests.specs.declared.data.RequestInFlight.{RequestInFlight as Recorded}
use Rattle.table_requests.specs.declared.data.Stage.{Stage as Recording}
use Rattle.table_requests.specs.declared.data.Stage.TheVariants as recorded
use Rattle.table_requests.specs.declared.data.Work.{Work as RecordedWork}
use Rattle.table_requests.specs.RequestMaps.{RequestsInFlight as Recordeds, RequestMaps, AreLawfulRequests, is_working, with_flight, without_flight}
use Rattle.tree.specs.Places.{Lookup}
use Rattle.table_steps.specs.Kept.{AreProvided, flight_of, flights_in, stage_of, work_of}
use Rattle.table_steps.specs.World.{AreHeld, AreKept, AreReady, RequestInFlight, IsAtWork, IsPinned, Work, Working, with_entry}
use Rattle.table_steps.specs.Keeping.{kept_by}
use Rattle.table_steps.proofs.Filing.{cases_kept, keeps_open, keeps_pinned}
use Rattle.table_footprints.proofs.Members.{cases_in, first_in, later_in, none_in}

-- ---- pins

any_of : (ns : List ℕ) (n : ℕ) → Contains ns n → list_any (λ m. m == n) ns ≡ true
any_of [] n h = absurd (none_in n h)
any_of (m ∷ ns) n h = elim (cases_in m ns n h) [
  | inl e ↦ or_left (m == n) (list_any (λ k. k == n) ns) (eq-eqb m n e)
  | inr more ↦ or_right (m == n) (list_any (λ k. k == n) ns) (any_of ns n more)
]

pub in_any_of : (ns : List ℕ) (n : ℕ) → list_any (λ m. m == n) ns ≡ true → Contains ns n
in_any_of [] n h = absurd (true≢false (sym h))
in_any_of (m ∷ ns) n h = elim (or_cases (m == n) (list_any (λ k. k == n) ns) h) [
  | inl e ↦ subst (λ k. Contains (m ∷ ns) k) (eqb-true m n e) (first_in m ns)
  | inr more ↦ later_in m ns n (in_any_of ns n more)
]

-- ---- one request

pub found_in : (o : Option Recorded) (f : RequestInFlight) → option_map flight_of o ≡ Some f → (r : Recorded) × (o ≡ Some r) × (flight_of r ≡ f)
found_in None f e = absurd (cc)
found_in (Some r) f e = (r, refl, same_Some (flight_of r) f e)

work_in : (s : Recording) (work : Work) → stage_of s ≡ Working work → (r : RecordedWork) × (s ≡ recorded.Working r) × (work_of r ≡ work)
work_in (recorded.Working r) work e = (r, refl, (let same : work_of r ≡ work = cc in same))
work_in (recorded.Answered before opened) work e = absurd (cc)

-- a request in progress, and its record
pub record IsRecorded (all : RequestMaps) (id : ℕ) (f : RequestInFlight) (work : Work) : Type 0 where
  pub flight : Recorded
  pub here : all.at id ≡ Some flight
  pub flight_is : flight_of flight ≡ f
  pub work_record : RecordedWork
  pub working : flight.stage ≡ recorded.Working work_record
  pub work_is : work_of work_record ≡ work

pub recorded_at : (all : RequestMaps) (id : ℕ) (f : RequestInFlight) (work : Work) → IsAtWork (flights_in all) id f work → IsRecorded all id f work
recorded_at all id f work at =
    let found = found_in (all.at id) f at.here in
    let it = work_in found.0.stage work (ap (λ (g : RequestInFlight). g.stage) found.2 ∙ at.working) in
    record { flight = found.0; here = found.1; flight_is = found.2; work_record = it.0; working = it.1; work_is = it.2 }

pub at_work : (all : RequestMaps) (id : ℕ) (f : Recorded) (work : RecordedWork) → all.at id ≡ Some f → f.stage ≡ recorded.Working work → IsAtWork (flights_in all) id (flight_of f) (work_of work)
at_work all id f work here working = record { here = ap (λ o. option_map flight_of o) here; working = ap stage_of working }

-- the numbers that are pinned are those that a request pins
are_pinned : (all : RequestMaps) → AreLawfulRequests all → (n : ℕ) → (all.pinned n ≡ true) ↔ IsPinned (flights_in all) n
are_pinned all flying n = (
  λ h. let it = (flying.pins n).0 h in record { id = it.0; flight = flight_of it.1; here = ap (λ o. option_map flight_of o) it.2; pin = in_any_of it.1.pins.numbers n it.3 },
  λ h. let found = found_in (all.at h.id) h.flight h.here in
      (flying.pins n).1 (h.id, found.0, found.1, any_of found.0.pins.numbers n (subst (λ (f : RequestInFlight). Contains f.pins n) (sym found.2) h.pin)),
)

-- the numbers that are kept alive are those that a request pins or that have an open file
pub are_kept : (flights : InFlight) (files : Filing) → AreLawfulRequests (requests_of flights) → AreOpenEntries (files_of files) → AreKept (flights_in (requests_of flights)) (files_of files).at (kept_by flights files)
are_kept flights files flying filed n = (
  λ h. elim (cases_kept flights files n h) [
    | inl pin ↦ inl ((are_pinned (requests_of flights) flying n).0 pin)
    | inr opened ↦ inr ((filed.opens n).0 opened)
  ],
  λ h. elim h [
    | inl pin ↦ keeps_pinned flights files n ((are_pinned (requests_of flights) flying n).1 pin)
    | inr opened ↦ keeps_open flights files n ((filed.opens n).1 opened)
  ],
)

-- ---- all requests

map_if : (b : Bool) (f : Recorded) (o : Option Recorded) → option_map flight_of (if b then Some f else o) ≡ (if b then Some (flight_of f) else option_map flight_of o)
map_if true f o = refl
map_if false f o = refl

map_unless : (b : Bool) (o : Option Recorded) → option_map flight_of (if b then None else o) ≡ (if b then None else option_map flight_of o)
map_unless true o = refl
map_unless false o = refl

pub flights_with : (old new : RequestMaps) (id : ℕ) (f : Recorded) → new.at ≡ with_flight old.at id f → flights_in new ≡ with_entry (flights_in old) id (Some (flight_of f))
flights_with old new id f is = fun_ext (λ k. ap (λ (at : Recordeds). option_map flight_of (at k)) is ∙ map_if (id == k) f (old.at k))

pub flights_without : (old new : RequestMaps) (id : ℕ) → new.at ≡ without_flight old.at id → flights_in new ≡ with_entry (flights_in old) id None
flights_without old new id is = fun_ext (λ k. ap (λ (at : Recordeds). option_map flight_of (at k)) is ∙ map_unless (id == k) (old.at k))

-- ---- fewer requests in progress

-- a request in progress was in progress before
pub record IsFewer (old new : RequestMaps) : Type 0 where
  pub was : (id : ℕ) (f : Recorded) (work : RecordedWork) → new.at id ≡ Some f → f.stage ≡ recorded.Working work → old.at id ≡ Some f

pub fewer_idle : (old new : RequestMaps) (id : ℕ) (g : Recorded) → new.at ≡ with_flight old.at id g → is_working g.stage ≡ false → IsFewer old new
fewer_idle old new id g is idle = record {
  was = λ k f work here working.
      let there : with_flight old.at id g k ≡ Some f = ap (λ (at : Recordeds). at k) (sym is) ∙ here in
      elim (cases_eq id k) [
        | inl e ↦
            let same : g ≡ f = same_Some g f (sym (cond-true (id == k) (Some g) (old.at k) (eq-eqb id k e)) ∙ there) in
            absurd (true≢false (sym (ap is_working (ap (λ (w : Recorded). w.stage) same ∙ working)) ∙ idle))
        | inr ne ↦ sym (cond-false (id == k) (Some g) (old.at k) (ne_eqb id k ne)) ∙ there
      ];
}

pub fewer_without : (old new : RequestMaps) (id : ℕ) → new.at ≡ without_flight old.at id → IsFewer old new
fewer_without old new id is = record {
  was = λ k f work here working.
      let there : without_flight old.at id k ≡ Some f = ap (λ (at : Recordeds). at k) (sym is) ∙ here in
      elim (cases_eq id k) [
        | inl e ↦ absurd (none-some f (sym (cond-true (id == k) None (old.at k) (eq-eqb id k e)) ∙ there))
        | inr ne ↦ sym (cond-false (id == k) None (old.at k) (ne_eqb id k ne)) ∙ there
      ];
}

module _ (old new : RequestMaps) (fewer : IsFewer old new) where
  pub fewer_at_work : (id : ℕ) (f : RequestInFlight) (work : Work) → IsAtWork (flights_in new) id f work → IsAtWork (flights_in old) id f work
  fewer_at_work id f work at =
      let it = recorded_at new id f work at in
      record { here = ap (λ o. option_map flight_of o) (fewer.was id it.flight it.work_record it.here it.working) ∙ ap (λ (g : RequestInFlight). Some g) it.flight_is; working = at.working }

  pub fewer_ready : (at : Lookup) → AreReady at (flights_in old) → AreReady at (flights_in new)
  fewer_ready at ready id f work here = ready id f work (fewer_at_work id f work here)

  pub fewer_held : (at : Lookup) → AreHeld at (flights_in old) → AreHeld at (flights_in new)
  fewer_held at held = record {
    apart = λ j k f g v work a b. held.apart j k f g v work (fewer_at_work j f v a) (fewer_at_work k g work b);
    known = λ id f work here. held.known id f work (fewer_at_work id f work here);
  }

  pub fewer_provided : AreProvided old → AreProvided new
  fewer_provided provided id f work here working = provided id f work (fewer.was id f work here working) working
