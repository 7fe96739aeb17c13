-- After each step, what the ends of requests remove has no open file.
use Rattle.std.proofs.Common.{ℕ, ◌≡◌, ◌⊎◌, Bool, false, Option, Some, None, refl, sym, ap, ◌∙◌, subst, inl, inr, arith}
use Rattle.std.proofs.lemmas.Bool.{cases_Bool, cases_eq}
use Rattle.std.proofs.lemmas.Option.{none-some, same_Some}
use Rattle.table_footprints.specs.Cases.{IsFootprint}
use Rattle.table_footprints.specs.Footprints.{Footprint}
use Rattle.table_requests.specs.declared.data.Want.{Want}
use Rattle.tree.proofs.LookupLemmas.{cases_option}
use Rattle.table_steps.specs.declared.data.Begin.{Begin}
use Rattle.table_steps.specs.declared.data.Begin.TheVariants.{Go, Busy, Refused}
use Rattle.table_steps.specs.declared.data.Outcome.{Outcome}
use Rattle.terms.specs.declared.limits.Limits.{Limits}
use Rattle.table_steps.specs.declared.state.State.{State}
use Rattle.table_steps.specs.Answers.{Answer, Settlement}
use Rattle.table_steps.specs.Kept.{IsKept, world_of}
use Rattle.table_steps.specs.Steps.{Begins, BeginsAs, Finishes, Forgets, IsAnswered, Settles}
use Rattle.table_steps.specs.World.{Answered, AreUndisturbed, IsAtWork, RequestInFlight, Stage, Work, Working, World, opened_world, seen_in}
use Rattle.table_steps.proofs.DisturbedSteps.{IsSteady, begun_undisturbed, ended_undisturbed, settled_undisturbed, taken_undisturbed}

abbrev pub IsCalm : World → Type 0
IsCalm w = AreUndisturbed w.at w.files w.flights

kept_steady : (s : State) → IsKept s → IsSteady (world_of s)
kept_steady s kept = record { tree = kept.law.tree; ready = kept.ready; held = kept.held; nodes = kept.files }

calm_same : (old new : World) → new ≡ old → IsCalm old → IsCalm new
calm_same old new same calm = subst IsCalm (sym same) calm

cases_flight : (o : Option RequestInFlight) → (o ≡ None) ⊎ ((f : RequestInFlight) × (o ≡ Some f))
cases_flight None = inl refl
cases_flight (Some f) = inr (f, refl)

-- a table with only the root
pub opened_calm : (limits : Limits) → IsCalm (opened_world limits)
opened_calm limits id f work at = absurd (none-some f at.here)

module _ (old new : World) (steady : IsSteady old) (steady' : IsSteady new) (calm : IsCalm old) where
  as_begun : (unique : ℕ) (want : Want) (d : Footprint) (answer : Begin) → IsFootprint (seen_in old) want d → BeginsAs old unique want d answer new → IsCalm new
  as_begun unique want d (Go ticket) is (may, goes) = begun_undisturbed old new unique want d ticket is may.usable goes steady steady' calm
  as_begun unique want d Busy is (sound, up, same) = calm_same old new same calm
  as_begun unique want d (Refused e) is (refused, same) = calm_same old new same calm

  calm_begun : (unique : ℕ) (want : Want) (answer : Begin) → Begins old unique want answer new → IsCalm new
  calm_begun unique want answer it = as_begun unique want it.footprint answer it.footprint_is it.begins

  stage_clash : (work : Work) (before : ℕ) (opened : Option ℕ) → Working work ≡ Answered before opened → ⊥
  stage_clash work before opened e = cc

  by_stage : (id : ℕ) (outcome : Outcome) (answer : Answer) → Finishes old id outcome answer new → (f : RequestInFlight) → old.flights id ≡ Some f → (st : Stage) → f.stage ≡ st → IsCalm new
  by_stage id outcome answer it f here (Working work) stage =
      let at : IsAtWork old.flights id f work = record { here = here; working = stage } in
      ended_undisturbed old new id f work at outcome answer (it.found f work at) steady steady' calm
  by_stage id outcome answer it f here (Answered before opened) stage =
      calm_same old new (it.lost (λ g work at. stage_clash work before opened (sym at.working ∙ (ap (λ (r : RequestInFlight). r.stage) (same_Some g f (sym at.here ∙ here)) ∙ stage)))).1 calm

  calm_finished : (id : ℕ) (outcome : Outcome) (answer : Answer) → Finishes old id outcome answer new → IsCalm new
  calm_finished id outcome answer it = elim (cases_flight (old.flights id)) [
    | inl none ↦ calm_same old new (it.lost (λ f work at. none-some f (sym none ∙ at.here))).1 calm
    | inr (f, here) ↦ by_stage id outcome answer it f here f.stage refl
  ]

  by_ended : (answer : Answer) (taken : Bool) (settled : Settlement) → Settles old answer taken settled new → answer.lost ≡ false → (f : RequestInFlight) → old.flights answer.id ≡ Some f → (st : Stage) → f.stage ≡ st → IsCalm new
  by_ended answer taken settled it kept f here (Working work) stage =
      calm_same old new (it.unknown (λ a. stage_clash work a.before a.opened (sym stage ∙ (ap (λ (r : RequestInFlight). r.stage) (same_Some f a.flight (sym here ∙ a.here)) ∙ a.ended)))) calm
  by_ended answer taken settled it kept f here (Answered before opened) stage =
      let a : IsAnswered old.flights answer.id = record { flight = f; here = here; before = before; opened = opened; ended = stage } in
      settled_undisturbed old new answer.id a taken (it.found kept a) steady steady' calm

  calm_settled : (answer : Answer) (taken : Bool) (settled : Settlement) → Settles old answer taken settled new → IsCalm new
  calm_settled answer taken settled it = elim (cases_Bool answer.lost) [
    | inl lost ↦ calm_same old new (it.lost lost) calm
    | inr kept ↦ elim (cases_flight (old.flights answer.id)) [
      | inl none ↦ calm_same old new (it.unknown (λ a. none-some a.flight (sym none ∙ a.here))) calm
      | inr (f, here) ↦ by_ended answer taken settled it kept f here f.stage refl
    ]
  ]

  calm_forgotten : (number n amount : ℕ) → Forgets old number n amount new → IsCalm new
  calm_forgotten number n amount it = elim (cases_eq amount 0) [
    | inl zero ↦ calm_same old new (it.nothing zero) calm
    | inr some ↦ elim (cases_option (old.at number)) [
      | inl none ↦ absurd (some (it.unknown none))
      | inr (x, here) ↦ taken_undisturbed old new number amount x here (it.something x here (omega (arith, some))) steady steady' calm
    ]
  ]

module _ (old new : State) (kept : IsKept old) (kept' : IsKept new) (calm : IsCalm (world_of old)) where
  pub begin_calm : (unique : ℕ) (want : Want) (answer : Begin) → Begins (world_of old) unique want answer (world_of new) → IsCalm (world_of new)
  begin_calm unique want answer it = calm_begun (world_of old) (world_of new) (kept_steady old kept) (kept_steady new kept') calm unique want answer it

  pub finish_calm : (id : ℕ) (outcome : Outcome) (answer : Answer) → Finishes (world_of old) id outcome answer (world_of new) → IsCalm (world_of new)
  finish_calm id outcome answer it = calm_finished (world_of old) (world_of new) (kept_steady old kept) (kept_steady new kept') calm id outcome answer it

  pub settle_calm : (answer : Answer) (taken : Bool) (settled : Settlement) → Settles (world_of old) answer taken settled (world_of new) → IsCalm (world_of new)
  settle_calm answer taken settled it = calm_settled (world_of old) (world_of new) (kept_steady old kept) (kept_steady new kept') calm answer taken settled it

  pub forget_calm : (number n amount : ℕ) → Forgets (world_of old) number n amount (world_of new) → IsCalm (world_of new)
  forget_calm number n amount it = calm_forgotten (world_of old) (world_of new) (kept_steady old kept) (kept_steady new kept') calm number n amount it
