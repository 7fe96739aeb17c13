-- What each step of a table does to marked nodes, and to what the requests in flight may do to them.
use Rattle.std.proofs.Common.{ℕ, ◌-◌, ◌==◌, ◌<◌, ◌≡◌, ◌⊎◌, Bool, true, false, if◌then◌else◌, List, [], Option, Some, None, drop, refl, sym, ap, ◌∙◌, subst, inl, inr, arith}
use Rattle.std.proofs.lemmas.Bool.{cases_Bool, cases_eq}
use Rattle.std.proofs.lemmas.Option.{none-some, same_Some}
use Rattle.tree.specs.declared.nodes.Node.{Node}
use Rattle.tree.specs.Places.{Lookup, with_node}
use Rattle.tree.proofs.LookupLemmas.{cases_option}
use Rattle.table_requests.specs.declared.data.Case.{Case}
use Rattle.table_requests.specs.declared.data.Want.{Want}
use Rattle.table_footprints.specs.Footprints.{Footprint, footprint_of}
use Rattle.table_steps.specs.declared.data.Begin.{Begin}
use Rattle.table_steps.specs.declared.data.Begin.TheVariants.{Go, Busy, Refused}
use Rattle.table_steps.specs.declared.data.Outcome.{Outcome}
use Rattle.table_steps.specs.Answers.{Answer, Claim, Settlement}
use Rattle.table_steps.specs.Entries.{untaken_of}
use Rattle.table_steps.specs.Steps.{Begins, Ends, EndsFor, Finishes, Forgets, GoesOn, IsAnswered, Leaves, Settles, Sweeps, Takes, act_of, answered}
use Rattle.table_steps.specs.World.{Answered, RequestInFlight, RequestsInFlight, IsAtWork, Stage, Work, Working, World, with_entry}
use Rattle.table_hiding.specs.Hiding.{IsBegunUnreserved, IsUnreserved}
use Rattle.table_hiding.proofs.Altered.{SparesMarked, reserved_altered}
use Rattle.table_hiding.proofs.Marked.{AreMarkedReserved, backs_marked, entries_marked, reserved_kept, reserved_swept, written_marked}
use Rattle.table_hiding.proofs.Wants.{outcome_spares}

-- the work has the footprint of its want, which names nothing reserved
pub record IsSparing (work : Work) : Type 0 where
  pub case : Case
  pub footprint : work.footprint ≡ footprint_of work.want case
  pub unreserved : IsUnreserved work.want

abbrev pub AreSparing : RequestsInFlight → Type 0
AreSparing flights = (id : ℕ) (f : RequestInFlight) (work : Work) → IsAtWork flights id f work → IsSparing work

pub record IsSafe (w : World) : Type 0 where
  pub marked : AreMarkedReserved w.at
  pub works : AreSparing w.flights

-- ---- requests in flight

sparing_with : (flights : RequestsInFlight) (key : ℕ) (x : Option RequestInFlight) → ((f : RequestInFlight) (work : Work) → x ≡ Some f → f.stage ≡ Working work → IsSparing work) → AreSparing flights → AreSparing (with_entry flights key x)
sparing_with flights key x each spare id f work it = elim (cases_Bool (key == id)) [
  | inl hit ↦ each f work (sym (ap (λ (b : Bool). if b then x else flights id) hit) ∙ it.here) it.working
  | inr miss ↦ spare id f work (record { here = sym (ap (λ (b : Bool). if b then x else flights id) miss) ∙ it.here; working = it.working })
]

sparing_without : (flights : RequestsInFlight) (key : ℕ) → AreSparing flights → AreSparing (with_entry flights key None)
sparing_without flights key spare = sparing_with flights key None (λ f work e at_work. absurd (none-some f e)) spare

sparing_answered : (flights : RequestsInFlight) (key : ℕ) (g : RequestInFlight) (before : ℕ) (opened : Option ℕ) → g.stage ≡ Answered before opened → AreSparing flights → AreSparing (with_entry flights key (Some g))
sparing_answered flights key g before opened ended spare = sparing_with flights key (Some g) (λ f work e at_work.
    let bad : Answered before opened ≡ Working work = sym ended ∙ (ap (λ (r : RequestInFlight). r.stage) (same_Some g f e) ∙ at_work) in
    absurd (cc bad)) spare

sparing_begun : (flights : RequestsInFlight) (key : ℕ) (g : RequestInFlight) (begun : Work) → g.stage ≡ Working begun → IsSparing begun → AreSparing flights → AreSparing (with_entry flights key (Some g))
sparing_begun flights key g begun working sparing spare = sparing_with flights key (Some g) (λ f work e at_work.
    let same : Working begun ≡ Working work = sym working ∙ (ap (λ (r : RequestInFlight). r.stage) (same_Some g f e) ∙ at_work) in
    let one : begun ≡ work = cc same in
    subst (λ (w : Work). IsSparing w) one sparing) spare

cases_stage : (s : Stage) → ((work : Work) × (s ≡ Working work)) ⊎ ((before : ℕ) × (opened : Option ℕ) × (s ≡ Answered before opened))
cases_stage (Working work) = inl (work, refl)
cases_stage (Answered before opened) = inr (before, opened, refl)

cases_flight : (o : Option RequestInFlight) → (o ≡ None) ⊎ ((f : RequestInFlight) × (o ≡ Some f))
cases_flight None = inl refl
cases_flight (Some f) = inr (f, refl)

-- ---- worlds

pub safe_as : (old new : World) → new.at ≡ old.at → new.flights ≡ old.flights → IsSafe old → IsSafe new
safe_as old new at flights safe = record {
  marked = subst (λ (l : Lookup). AreMarkedReserved l) (sym at) safe.marked;
  works = subst (λ (fs : RequestsInFlight). AreSparing fs) (sym flights) safe.works;
}

safe_same : (old new : World) → new ≡ old → IsSafe old → IsSafe new
safe_same old new same safe = subst (λ (w : World). IsSafe w) (sym same) safe

sweeps_reserved : (mid : Lookup) (new : World) → Sweeps mid new → AreMarkedReserved mid → AreMarkedReserved new.at
sweeps_reserved mid new sweeps marked = reserved_swept sweeps.kept mid new.at sweeps.swept marked

leaves_reserved : (at : Lookup) (handle : Option ℕ) (new : World) → Leaves at handle new → AreMarkedReserved at → AreMarkedReserved new.at
leaves_reserved at None new same marked = subst (λ (l : Lookup). AreMarkedReserved l) (sym same) marked
leaves_reserved at (Some handle) new sweeps marked = sweeps_reserved at new sweeps marked

-- ---- a begin

goes_safe : (old new : World) (unique : ℕ) (want : Want) (ticket : Claim) (b : Begins old unique want (Go ticket) new) → IsUnreserved want → IsSafe old → IsSafe new
goes_safe old new unique want ticket b plain safe =
    let goes = b.begins.1 in
    let work : Work = record { want = want; footprint = b.footprint; held = goes.held } in
    let f : RequestInFlight = record { unique = unique; stage = Working work; pins = goes.pins } in
    let sparing : IsSparing work = record { case = b.footprint_is.case; footprint = b.footprint_is.footprint; unreserved = plain } in
    record {
      marked = leaves_reserved old.at b.footprint.closes new goes.leaves safe.marked;
      works = subst (λ (fs : RequestsInFlight). AreSparing fs) (sym (ap (λ (w : World). w.flights) goes.new_is)) (sparing_begun old.flights ticket.id f work refl sparing safe.works);
    }

pub begins_safe : (old new : World) (unique : ℕ) (want : Want) (told : Begin) → Begins old unique want told new → IsBegunUnreserved want told → IsSafe old → IsSafe new
begins_safe old new unique want (Go ticket) b plain safe = goes_safe old new unique want ticket b plain safe
begins_safe old new unique want Busy b plain safe = safe_same old new b.begins.2 safe
begins_safe old new unique want (Refused errno) b plain safe = safe_same old new b.begins.1 safe

-- ---- a forget

takes_safe : (old new : World) (number amount : ℕ) (x : Node) → old.at number ≡ Some x → Takes old number amount x new → IsSafe old → IsSafe new
takes_safe old new number amount x here takes safe =
    let y : Node = record x { count = x.count - amount } in
    record {
      marked = sweeps_reserved (with_node old.at number y) new takes.sweeps (reserved_kept old.at (with_node old.at number y) (written_marked old.at number x y here refl refl) safe.marked);
      works = subst (λ (fs : RequestsInFlight). AreSparing fs) (sym (ap (λ (w : World). w.flights) takes.new_is)) safe.works;
    }

pub forgets_safe : (old new : World) (number n amount : ℕ) → Forgets old number n amount new → IsSafe old → IsSafe new
forgets_safe old new number n amount h safe = elim (cases_eq amount 0) [
  | inl none ↦ safe_same old new (h.nothing none) safe
  | inr some ↦ elim (cases_option (old.at number)) [
    | inl gone ↦ absurd (some (h.unknown gone))
    | inr (x, stood) ↦ takes_safe old new number amount x stood (h.something x stood (omega arith)) safe
  ]
]

-- ---- a settle

ended_safe : (old new : World) (id : ℕ) (a : IsAnswered old.flights id) (taken : Bool) → EndsFor old id a taken new → IsSafe old → IsSafe new
ended_safe old new id a taken ends safe = record {
  marked = sweeps_reserved ends.mid new ends.sweeps (reserved_kept old.at ends.mid (backs_marked old.at old.postings (untaken_of taken (drop a.before a.flight.pins)) ends.mid new.postings ends.back) safe.marked);
  works = subst (λ (fs : RequestsInFlight). AreSparing fs) (sym (ap (λ (w : World). w.flights) ends.new_is)) (sparing_without old.flights id safe.works);
}

settled_safe : (old new : World) (answer : Answer) (taken : Bool) (settled : Settlement) → Settles old answer taken settled new → answer.lost ≡ false → IsSafe old → IsSafe new
settled_safe old new answer taken settled s found safe = elim (cases_flight (old.flights answer.id)) [
  | inl none ↦ safe_same old new (s.unknown (λ a. none-some a.flight (sym none ∙ a.here))) safe
  | inr (f, here) ↦ elim (cases_stage f.stage) [
    | inl (work, working) ↦ safe_same old new (s.unknown (λ a.
        let bad : Working work ≡ Answered a.before a.opened = sym working ∙ (ap (λ (r : RequestInFlight). r.stage) (same_Some f a.flight (sym here ∙ a.here)) ∙ a.ended) in
        cc bad)) safe
    | inr (before, opened, ended) ↦
        let a : IsAnswered old.flights answer.id = record { flight = f; here = here; before = before; opened = opened; ended = ended } in
        ended_safe old new answer.id a taken (s.found found a) safe
  ]
]

pub settles_safe : (old new : World) (answer : Answer) (taken : Bool) (settled : Settlement) → Settles old answer taken settled new → IsSafe old → IsSafe new
settles_safe old new answer taken settled s safe = elim (cases_Bool answer.lost) [
  | inl lost ↦ safe_same old new (s.lost lost) safe
  | inr found ↦ settled_safe old new answer taken settled s found safe
]

-- ---- a finish

ends_safe : (old new : World) (id : ℕ) (f : RequestInFlight) (work : Work) (outcome : Outcome) (answer : Answer) → IsSparing work → Ends old id f (act_of work.footprint outcome) work.footprint.entries answer new → IsSafe old → IsSafe new
ends_safe old new id f work outcome answer sparing ends safe =
    let act = act_of work.footprint outcome in
    let spares : SparesMarked act.change = subst (λ (d : Footprint). SparesMarked (act_of d outcome).change) (sym sparing.footprint) (outcome_spares work.want sparing.case outcome sparing.unreserved) in
    let owners = with_entry old.flights id (Some (answered f [] None)) in
    let entered = reserved_kept old.at ends.entered (entries_marked owners old.at ends.entered old.postings new.postings work.footprint.entries act.found answer.given ends.enters) safe.marked in
    let altered = reserved_altered act.change ends.entered ends.altered spares ends.alters entered in
    record {
      marked = sweeps_reserved ends.altered new ends.sweeps altered;
      works = subst (λ (fs : RequestsInFlight). AreSparing fs) (sym (ap (λ (w : World). w.flights) ends.new_is))
          (sparing_answered old.flights id (answered f answer.given answer.opened) _ _ refl safe.works);
    }

pub finishes_safe : (old new : World) (id : ℕ) (outcome : Outcome) (answer : Answer) → Finishes old id outcome answer new → IsSafe old → IsSafe new
finishes_safe old new id outcome answer finishes safe = elim (cases_flight (old.flights id)) [
  | inl none ↦ safe_same old new (finishes.lost (λ f work it. none-some f (sym none ∙ it.here))).1 safe
  | inr (f, here) ↦ elim (cases_stage f.stage) [
    | inl (work, working) ↦
        let it : IsAtWork old.flights id f work = record { here = here; working = working } in
        ends_safe old new id f work outcome answer (safe.works id f work it) (finishes.found f work it) safe
    | inr (before, opened, ended) ↦ safe_same old new (finishes.lost (λ g work it.
        let bad : Answered before opened ≡ Working work = sym ended ∙ (ap (λ (r : RequestInFlight). r.stage) (same_Some f g (sym here ∙ it.here)) ∙ it.working) in
        cc bad)).1 safe
  ]
]
