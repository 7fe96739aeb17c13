-- Which requests are still in progress after a step.
use Rattle.std.proofs.Common.{ℕ, ◌≡◌, ◌≢◌, ◌==◌, ◌⊎◌, Bool, false, Option, Some, None, refl, sym, ap, ◌∙◌, inl, inr, arith}
use Rattle.std.proofs.lemmas.Bool.{cases_Bool, cases_eq, cond-false, cond-true, eq-eqb, ne_eqb, true≢false}
use Rattle.std.proofs.lemmas.Option.{none-some, same_Some}
use Rattle.tree.proofs.LookupLemmas.{cases_option}
use Rattle.table_requests.specs.declared.data.Want.{Want}
use Rattle.table_steps.specs.declared.data.Begin.{Begin}
use Rattle.table_steps.specs.declared.data.Begin.TheVariants.{Busy, Go, Refused}
use Rattle.table_steps.specs.declared.data.Outcome.{Outcome}
use Rattle.table_steps.specs.Answers.{Answer, Settlement}
use Rattle.table_steps.specs.Steps.{Begins, ClosesPeriod, Finishes, Forgets, IsAnswered, Settles}
use Rattle.table_steps.specs.World.{Answered, RequestInFlight, RequestsInFlight, IsAtWork, Stage, Work, Working, World, with_entry}
use Rattle.table.specs.Renewing.{BeginsAnew, FinishesAnew, ForgetsAnew, SettlesAnew}
use Rattle.table.proofs.Closing.{flights_renewed}
use Rattle.table_shared.specs.Current.{is_finish}
use Rattle.table_shared.specs.Runs.{Call, IsStep, began, finished, forgot, looked, settled}

-- ---- requests by their ids

pub entry_same : (at : RequestsInFlight) (id : ℕ) (x : Option RequestInFlight) → with_entry at id x id ≡ x
entry_same at id x = cond-true (id == id) x (at id) (eq-eqb id id refl)

entry_other : (at : RequestsInFlight) (id : ℕ) (x : Option RequestInFlight) (k : ℕ) → id ≢ k → with_entry at id x k ≡ at k
entry_other at id x k ne = cond-false (id == k) x (at k) (ne_eqb id k ne)

-- some request is in progress, or none is
pub at_work : (flights : RequestsInFlight) (id : ℕ) (o : Option RequestInFlight) → flights id ≡ o → ((f : RequestInFlight) (work : Work) → IsAtWork flights id f work → ⊥) ⊎ ((f : RequestInFlight) × (work : Work) × IsAtWork flights id f work)
at_work flights id None e = inl (λ f work w. absurd (none-some f (sym e ∙ w.here)))
at_work flights id (Some f) e = by_stage f.stage refl where
  by_stage : (s : Stage) → f.stage ≡ s → ((f' : RequestInFlight) (work : Work) → IsAtWork flights id f' work → ⊥) ⊎ ((f' : RequestInFlight) × (work : Work) × IsAtWork flights id f' work)
  by_stage (Working work) s = inr (f, work, record { here = e; working = s })
  by_stage (Answered before opened) s = inl (λ f' work w. let h = w.here in let k = w.working in absurd cc)

-- the work on one was ended, or not
pub answered_or : (flights : RequestsInFlight) (id : ℕ) (o : Option RequestInFlight) → flights id ≡ o → (IsAnswered flights id → ⊥) ⊎ IsAnswered flights id
answered_or flights id None e = inl (λ k. absurd (none-some k.flight (sym e ∙ k.here)))
answered_or flights id (Some f) e = by_stage f.stage refl where
  by_stage : (st : Stage) → f.stage ≡ st → (IsAnswered flights id → ⊥) ⊎ IsAnswered flights id
  by_stage (Answered before opened) is = inr (record { flight = f; here = e; before = before; opened = opened; ended = is })
  by_stage (Working work) is = inl (λ k. let h = k.here in let m = k.ended in absurd cc)

-- ---- one step

-- the request with that id is in progress as before
abbrev pub StaysAtWork : World → World → ℕ → Type 0
StaysAtWork old new id = (f : RequestInFlight) (work : Work) → IsAtWork old.flights id f work → new.flights id ≡ Some f

stays_same : (old new : World) (id : ℕ) → new ≡ old → StaysAtWork old new id
stays_same old new id e f work it = ap (λ (w : World). w.flights id) e ∙ it.here

-- a request that begins has an unused id
pub begins_stays : (old : World) (unique : ℕ) (want : Want) (told : Begin) (new : World) → Begins old unique want told new → (k : ℕ) → StaysAtWork old new k
begins_stays old unique want (Go claim) new b k f work it =
    let goes = b.begins.1 in
    let ne : claim.id ≢ k = λ same. none-some f (sym goes.fresh ∙ (ap old.flights same ∙ it.here)) in
    ap (λ (w : World). w.flights k) goes.new_is ∙ (entry_other old.flights claim.id _ k ne ∙ it.here)
begins_stays old unique want Busy new b k f work it = stays_same old new k b.begins.2 f work it
begins_stays old unique want (Refused e) new b k f work it = stays_same old new k b.begins.1 f work it

finishes_other : (old : World) (id : ℕ) (o : Outcome) (answer : Answer) (new : World) → Finishes old id o answer new → (k : ℕ) → id ≢ k → StaysAtWork old new k
finishes_other old id o answer new fin k ne f work it = elim (at_work old.flights id (old.flights id) refl) [
  | inl idle ↦ stays_same old new k (fin.lost idle).1 f work it
  | inr (g, w, at) ↦ ap (λ (x : World). x.flights k) (fin.found g w at).new_is ∙ (entry_other old.flights id _ k ne ∙ it.here)
]

-- the work on a request that is settled was ended before
settles_stays : (old : World) (answer : Answer) (taken : Bool) (told : Settlement) (new : World) → Settles old answer taken told new → (k : ℕ) → StaysAtWork old new k
settles_stays old answer taken told new s k f work it = elim (cases_Bool answer.lost) [
  | inl gone ↦ stays_same old new k (s.lost gone) f work it
  | inr held ↦ elim (answered_or old.flights answer.id (old.flights answer.id) refl) [
    | inl unknown ↦ stays_same old new k (s.unknown unknown) f work it
    | inr known ↦
        let e = s.found held known in
        let ne : answer.id ≢ k = λ same.
        let one : known.flight ≡ f = same_Some known.flight f (sym known.here ∙ (ap old.flights same ∙ it.here)) in
        let bad : Answered known.before known.opened ≡ Working work = sym known.ended ∙ (ap (λ (x : RequestInFlight). x.stage) one ∙ it.working) in absurd (cc) in
        ap (λ (x : World). x.flights k) e.new_is ∙ (entry_other old.flights answer.id None k ne ∙ it.here)
  ]
]

forgets_stays : (old : World) (number n amount : ℕ) (new : World) → Forgets old number n amount new → (k : ℕ) → StaysAtWork old new k
forgets_stays old number n amount new h k f work it = elim (cases_eq amount 0) [
  | inl none ↦ stays_same old new k (h.nothing none) f work it
  | inr some ↦ elim (cases_option (old.at number)) [
    | inl gone ↦ absurd (some (h.unknown gone))
    | inr (x, stood) ↦ ap (λ (w : World). w.flights k) (h.something x stood (omega arith)).new_is ∙ it.here
  ]
]

pub closes_stays : (old : World) (fewer : ℕ) (new : World) → ClosesPeriod old fewer new → (k : ℕ) → StaysAtWork old new k
closes_stays old fewer new closes k f work it = ap (λ (w : World). w.flights k) closes.new_is ∙ it.here

-- ---- a period that ends first affects none of them

after_renewed : (old mid new : World) → ((id : ℕ) → mid.flights id ≡ old.flights id) → (k : ℕ) → StaysAtWork mid new k → StaysAtWork old new k
after_renewed old mid new same k stays f work it = stays f work (record { here = same k ∙ it.here; working = it.working })

begins_anew : (old : World) (unique : ℕ) (want : Want) (told : Begin) (new : World) → BeginsAnew old unique want told new → (k : ℕ) → StaysAtWork old new k
begins_anew old unique want told new b k = after_renewed old b.renewed new (flights_renewed old b.renewed b.renews) k (begins_stays b.renewed unique want told new b.begins k)

pub finishes_anew : (old : World) (id : ℕ) (o : Outcome) (answer : Answer) (new : World) → FinishesAnew old id o answer new → (k : ℕ) → id ≢ k → StaysAtWork old new k
finishes_anew old id o answer new fin k ne = after_renewed old fin.renewed new (flights_renewed old fin.renewed fin.room) k (finishes_other fin.renewed id o answer new fin.finishes k ne)

pub settles_anew : (old : World) (answer : Answer) (taken : Bool) (told : Settlement) (new : World) → SettlesAnew old answer taken told new → (k : ℕ) → StaysAtWork old new k
settles_anew old answer taken told new s k = after_renewed old s.renewed new (flights_renewed old s.renewed s.room) k (settles_stays s.renewed answer taken told new s.settles k)

pub forgets_anew : (old : World) (number n amount : ℕ) (new : World) → ForgetsAnew old number n amount new → (k : ℕ) → StaysAtWork old new k
forgets_anew old number n amount new h k = after_renewed old h.renewed new (flights_renewed old h.renewed h.room) k (forgets_stays h.renewed number n amount new h.forgets k)

-- ---- any call but the finish of that request

pub step_stays : (old new : World) (call : Call) (k : ℕ) → is_finish k call ≡ false → IsStep old call new → StaysAtWork old new k
step_stays old new (began unique want told) k other step = begins_anew old unique want told new step k
step_stays old new (finished id outcome told) k other step = finishes_anew old id outcome told new step k (λ same. true≢false (sym (eq-eqb id k same) ∙ other))
step_stays old new (settled answer taken told) k other step = settles_anew old answer taken told new step k
step_stays old new (forgot number n told) k other step = forgets_anew old number n told new step k
step_stays old new (looked fh told) k other step = stays_same old new k step.1
