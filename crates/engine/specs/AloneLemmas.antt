-- A single request in a table.
use Rattle.std.proofs.lemmas.Bool.{cases_eq, eq-eqb}
use Rattle.tree.proofs.LookupLemmas.{cases_option}
use Rattle.std.proofs.Common.{◌≡◌, ◌==◌, ℕ, Bool, true, false, Option, Some, None, length, if◌then◌else◌, refl, sym, ap, ◌∙◌, inl, inr, ℤ, to_z, of_z, w32, arith}
use Rattle.table_requests.specs.declared.data.Want.{Want}
use Rattle.table_steps.proofs.Refusing.{refusal_bits}
use Rattle.table_steps.specs.Answers.{Claim, Answer, Settlement}
use Rattle.table_steps.specs.World.{Answered, RequestInFlight, RequestsInFlight, Work, Working, World, opened_world, with_entry}
use Rattle.terms.specs.declared.limits.Limits.{Limits}
use Rattle.table_steps.specs.Steps.{Begins, Finishes, Forgets, Settles, answered}
use Rattle.table_steps.specs.declared.data.Outcome.{Outcome}
use Rattle.table_steps.specs.declared.data.Begin.TheVariants.{Go, Refused}
use Rattle.table.specs.Renewing.{BeginsAnew}
use Rattle.engine.specs.Tables.{IsIdle}

-- one request is in flight, and it was answered
pub record Alone (id : ℕ) (flights : RequestsInFlight) : Type 0 where
  pub flight : RequestInFlight
  pub here : flights id ≡ Some flight
  pub before : ℕ
  pub opened : Option ℕ
  pub stage : flight.stage ≡ Answered before opened
  pub others : (k : ℕ) → (id == k) ≡ false → flights k ≡ None

itself : (id : ℕ) (at : RequestsInFlight) (x : Option RequestInFlight) → with_entry at id x id ≡ x
itself id at x = ap (λ (b : Bool). if b then x else at id) (eq-eqb id id refl)

another : (id k : ℕ) (at : RequestsInFlight) (x : Option RequestInFlight) → (id == k) ≡ false → at k ≡ None → with_entry at id x k ≡ None
another id k at x e none = ap (λ (b : Bool). if b then x else at k) e ∙ none

-- what an outcome does to the requests in flight
pub record Ended (id : ℕ) (a : Answer) (new : World) : Type 0 where
  pub not_lost : a.lost ≡ false
  pub id_is : a.id ≡ id
  pub alone : Alone id new.flights

-- A request that begins in an idle table is not lost. A period may end before its work does.
pub finishes_one : (old mid renewed fin : World) (unique : ℕ) (want : Want) (claim : Claim) (o : Outcome) (a : Answer) → IsIdle old → Begins old unique want (Go claim) mid → ((k : ℕ) → renewed.flights k ≡ mid.flights k) → Finishes renewed claim.id o a fin → Ended claim.id a fin
finishes_one old mid renewed fin unique want claim o a idle begins same finishes =
    let goes = begins.begins.1 in
    let work : Work = record { want = want; footprint = begins.footprint; held = goes.held } in
    let f : RequestInFlight = record { unique = unique; stage = Working work; pins = goes.pins } in
    let now : (k : ℕ) → renewed.flights k ≡ with_entry old.flights claim.id (Some f) k = λ k. same k ∙ ap (λ (w : World). w.flights k) goes.new_is in
    let ends = finishes.found f work (record { here = now claim.id ∙ itself claim.id old.flights (Some f); working = refl }) in
    let then_is : (k : ℕ) → fin.flights k ≡ with_entry renewed.flights claim.id (Some (answered f a.given a.opened)) k = λ k. ap (λ (w : World). w.flights k) ends.new_is in
    record {
      not_lost = ends.not_lost;
      id_is = ends.answer_id;
      alone = record {
        flight = answered f a.given a.opened;
        here = then_is claim.id ∙ itself claim.id renewed.flights (Some (answered f a.given a.opened));
        before = length f.pins;
        opened = a.opened;
        stage = refl;
        others = λ k e. then_is k ∙ another claim.id k renewed.flights (Some (answered f a.given a.opened)) e (now k ∙ another claim.id k old.flights (Some f) e (idle k));
      };
    }

gone : (b : Bool) (id k : ℕ) (at : RequestsInFlight) → (id == k) ≡ b → ((id == k) ≡ false → at k ≡ None) → with_entry at id None k ≡ None
gone true id k at e none = ap (λ (b : Bool). if b then None else at k) e
gone false id k at e none = ap (λ (b : Bool). if b then None else at k) e ∙ none e

-- After it is settled, the table is idle.
pub settles_one : (fin renewed new : World) (id : ℕ) (a : Answer) (taken : Bool) (settled : Settlement) → Ended id a fin → ((k : ℕ) → renewed.flights k ≡ fin.flights k) → Settles renewed a taken settled new → IsIdle new
settles_one fin renewed new id a taken settled ended same s = λ k.
    let ends = s.found ended.not_lost (record { flight = ended.alone.flight; here = same a.id ∙ (ap fin.flights ended.id_is ∙ ended.alone.here); before = ended.alone.before; opened = ended.alone.opened; ended = ended.alone.stage }) in
    ap (λ (w : World). w.flights k) ends.new_is ∙ gone (a.id == k) a.id k renewed.flights refl (λ e. same k ∙ ended.alone.others k (ap (λ n. n == k) (sym ended.id_is) ∙ e))

-- After a forget the table is idle.
pub forgets_idle : (old new : World) (number n amount : ℕ) → IsIdle old → Forgets old number n amount new → IsIdle new
forgets_idle old new number n amount idle h = λ id. elim (cases_eq amount 0) [
  | inl none ↦ ap (λ (w : World). w.flights id) (h.nothing none) ∙ idle id
  | inr some ↦ elim (cases_option (old.at number)) [
    | inl gone ↦ absurd (some (h.unknown gone))
    | inr (x, stood) ↦ ap (λ (w : World). w.flights id) (h.something x stood (omega arith)).new_is ∙ idle id
  ]
]

-- Writing an error number of the table and reading it back.
pub refused_bits : (old new : World) (unique : ℕ) (want : Want) (errno : ℤ) → BeginsAnew old unique want (Refused errno) new → BeginsAnew old unique want (Refused (to_z w32 (of_z w32 errno))) new
refused_bits old new unique want errno a = record {
  renewed = a.renewed;
  renews = a.renews;
  begins = let b = a.begins in record { footprint = b.footprint; footprint_is = b.footprint_is; begins = (refusal_bits a.renewed b.footprint errno b.begins.0, b.begins.1) };
}

-- A new table is idle.
pub opened_idle : (limits : Limits) (w : World) → w ≡ opened_world limits → IsIdle w
opened_idle limits w o = λ id. ap (λ (v : World). v.flights id) o
