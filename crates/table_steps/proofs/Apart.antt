-- What is held stays free of conflicts when one more request begins, and the recorded paths are known.
use Rattle.std.proofs.Common.{ℕ, ◌≡◌, ◌≢◌, ◌==◌, ◌⊎◌, List, All, Contains, Option, Some, get_or, refl, sym, ap, ◌∙◌, subst, inl, inr}
use Rattle.std.proofs.lemmas.Bool.{cases_eq, cond-false, cond-true, eq-eqb, ne_eqb}
use Rattle.std.proofs.lemmas.List.Elements.{All-contains_itself}
use Rattle.std.proofs.lemmas.Option.{same_Some}
use Rattle.paths.specs.Prefixes.{Names}
use Rattle.holds.specs.declared.held.Held.{Held}
use Rattle.holds.specs.declared.held.GivenPath.{GivenPath}
use Rattle.holds.specs.Conflicts.{Conflict, Excludes, Overlaps}
use Rattle.table_requests.specs.declared.data.Stage.{Stage as Recording}
use Rattle.table_requests.specs.declared.data.Stage.TheVariants as recorded
use Rattle.table_requests.specs.declared.data.Work.{Work as RecordedWork}
use Rattle.table_requests.specs.RequestMaps as flying
use Rattle.tree.specs.Places.{Lookup, IsTree}
use Rattle.table_law.specs.Law.{IsGivenPath}
use Rattle.table_footprints.specs.Asked.{Holds}
use Rattle.table_footprints.specs.Laws.{IsGrounded}
use Rattle.table_footprints.specs.Footprints.{Footprint}
use Rattle.table_steps.specs.Kept.{flight_of, flights_in, work_of}
use Rattle.table_steps.specs.Steps.{HoldsUp}
use Rattle.table_steps.specs.World.{RequestInFlight, RequestsInFlight, IsAtWork, Work, Working, with_entry}
use Rattle.table_steps.proofs.Staying.{prefixes_given, map_in}
use Rattle.table_steps.proofs.Viewed.{at_work, recorded_at}

-- ---- conflicts

in_the_way : (st : Recording) (wanted : Held) → flying.IsInTheWay st wanted → (v : RecordedWork) × (st ≡ recorded.Working v) × Conflict v.held wanted
in_the_way (recorded.Working v) wanted conflict = (v, refl, conflict)
in_the_way (recorded.Answered before opened) wanted bad = absurd bad

pub held_up_seen : (all : flying.RequestMaps) (wanted : Held) → flying.HoldsUp all.at wanted → HoldsUp (flights_in all) wanted
held_up_seen all wanted up =
    let v = in_the_way up.flight.stage wanted up.conflict in
    record { id = up.id; flight = flight_of up.flight; work = work_of v.0; here = at_work all up.id up.flight v.0 up.here v.1; conflict = v.2 }

pub held_up_recorded : (all : flying.RequestMaps) (wanted : Held) → HoldsUp (flights_in all) wanted → flying.HoldsUp all.at wanted
held_up_recorded all wanted up =
    let it = recorded_at all up.id up.flight up.work up.here in
    let conflict : Conflict it.work_record.held wanted = subst (λ (w : Work). Conflict w.held wanted) (sym it.work_is) up.conflict in
    record { id = up.id; flight = it.flight; here = it.here; conflict = subst (λ (st : Recording). flying.IsInTheWay st wanted) (sym it.working) conflict }

-- ---- the same names

overlaps_right : (ps qs rs : List Names) → ((q : Names) → Contains qs q → Contains rs q) → Overlaps ps qs → Overlaps ps rs
overlaps_right ps qs rs more m = (m.0, m.1, m.2, m.3, more m.1 m.4)

overlaps_left : (ps qs rs : List Names) → ((q : Names) → Contains ps q → Contains qs q) → Overlaps ps rs → Overlaps qs rs
overlaps_left ps qs rs more m = let it = more m.1 (m.0, m.2, m.3) in (it.0, m.1, it.1, it.2, m.4)

-- whatever the first holds, the second holds too
record HoldsNoMore (h k : Held) : Type 0 where
  shared : (q : Names) → Contains h.shared q → Contains k.shared q
  exclusive : (q : Names) → Contains h.exclusive q → Contains k.exclusive q

excludes_more : (r h k : Held) → HoldsNoMore h k → Excludes r h → Excludes r k
excludes_more r h k more (inl m) = inl (overlaps_right r.exclusive h.exclusive k.exclusive more.exclusive m)
excludes_more r h k more (inr m) = inr (overlaps_right r.exclusive h.shared k.shared more.shared m)

excluded_more : (r h k : Held) → HoldsNoMore h k → Excludes h r → Excludes k r
excluded_more r h k more (inl m) = inl (overlaps_left h.exclusive k.exclusive r.exclusive more.exclusive m)
excluded_more r h k more (inr m) = inr (overlaps_left h.exclusive k.exclusive r.shared more.exclusive m)

conflict_more : (r h k : Held) → HoldsNoMore h k → Conflict r h → Conflict r k
conflict_more r h k more (inl g) = inl (excludes_more r h k more g)
conflict_more r h k more (inr g) = inr (excluded_more r h k more g)

pub conflict_swap : (r h : Held) → Conflict r h → Conflict h r
conflict_swap r h (inl g) = inr g
conflict_swap r h (inr g) = inl g

-- two that hold what the same footprint says hold the same
same_names : (at : Lookup) (d : Footprint) (h k : Held) → Holds at d h → Holds at d k → HoldsNoMore h k
same_names at d h k a b = record {
  shared = λ q c. (b.shared q).1 ((a.shared q).0 c);
  exclusive = λ q c. (b.exclusive q).1 ((a.exclusive q).0 c);
}

pub held_up_same : (at : Lookup) (d : Footprint) (h k : Held) → Holds at d h → Holds at d k → (flights : RequestsInFlight) → HoldsUp flights h → HoldsUp flights k
held_up_same at d h k a b flights up = record { id = up.id; flight = up.flight; work = up.work; here = up.here; conflict = conflict_more up.work.held h k (same_names at d h k a b) up.conflict }

-- ---- no conflicts

abbrev pub AreApart : RequestsInFlight → Type 0
AreApart flights = (j k : ℕ) (f g : RequestInFlight) (v work : Work) → IsAtWork flights j f v → IsAtWork flights k g work → j ≢ k → Conflict v.held work.held → ⊥

-- a request found after one more began is that one, or was found before
pub entry_some : {X : Type 0} → (at : ℕ → Option X) (key : ℕ) (x : X) (k : ℕ) (y : X) → with_entry at key (Some x) k ≡ Some y → ((key ≡ k) × (x ≡ y)) ⊎ ((key ≡ k → ⊥) × (at k ≡ Some y))
entry_some at key x k y h = elim (cases_eq key k) [
  | inl e ↦ inl (e, same_Some x y (sym (cond-true (key == k) (Some x) (at k) (eq-eqb key k e)) ∙ h))
  | inr ne ↦ inr (ne, sym (cond-false (key == k) (Some x) (at k) (ne_eqb key k ne)) ∙ h)
]

same_working : (v w : Work) → Working v ≡ Working w → v ≡ w
same_working v w e = cc

-- a request in progress after one more began is that one, or was in progress before
pub at_work_more : (flights : RequestsInFlight) (id : ℕ) (f : RequestInFlight) (w : Work) → f.stage ≡ Working w → (k : ℕ) (g : RequestInFlight) (work : Work) → IsAtWork (with_entry flights id (Some f)) k g work
    → ((id ≡ k) × (f ≡ g) × (w ≡ work)) ⊎ IsAtWork flights k g work
at_work_more flights id f w stage k g work h = elim (entry_some flights id f k g h.here) [
  | inl (e, same) ↦ inl (e, same, same_working w work (sym stage ∙ (ap (λ (x : RequestInFlight). x.stage) same ∙ h.working)))
  | inr (ne, was) ↦ inr (record { here = was; working = h.working })
]

-- one more request, which conflicts with none
pub apart_more : (flights : RequestsInFlight) (id : ℕ) (f : RequestInFlight) (w : Work) → f.stage ≡ Working w → (HoldsUp flights w.held → ⊥) → AreApart flights → AreApart (with_entry flights id (Some f))
apart_more flights id f w stage clear apart j k a b v work ha hb ne conflict = elim (at_work_more flights id f w stage k b work hb) [
  | inl (e, same, w_is) ↦ elim (at_work_more flights id f w stage j a v ha) [
    | inl (e', same', v_is) ↦ ne (sym e' ∙ e)
    | inr was ↦ clear (record { id = j; flight = a; work = v; here = was; conflict = subst (λ (x : Work). Conflict v.held x.held) (sym w_is) conflict })
  ]
  | inr here ↦ elim (at_work_more flights id f w stage j a v ha) [
    | inl (e', same', v_is) ↦ clear (record { id = k; flight = b; work = work; here = here; conflict = conflict_swap w.held work.held (subst (λ (x : Work). Conflict x.held work.held) (sym v_is) conflict) })
    | inr was ↦ apart j k a b v work was here ne conflict
  ]
]

-- ---- known

-- what a footprint holds covers the paths of the nodes that it names
pub known_held : (at : Lookup) → IsTree at → (d : Footprint) (held : Held) → IsGrounded d → Holds at d held → (f : RequestInFlight) → ((n : ℕ) → Contains d.given n → Contains f.pins n) → All (IsGivenPath at held) held.given
known_held at tree d held footprint holds f pinned k e within =
    let lead : GivenPath = get_or held.given k e in
    let given : Contains d.given lead.number = subst (λ ns. Contains ns lead.number) holds.numbers (map_in (λ (x : GivenPath). x.number) held.given lead (All-contains_itself held.given k e within)) in
    let path = holds.leads k e within in
    record { path = path; prefixes = prefixes_given at at tree d held footprint holds f pinned (λ n pin q prefixes leads. leads) lead.number given lead.path path }
