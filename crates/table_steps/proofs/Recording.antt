-- What a request's record says it gave and opened is what the end of its work returned.
use Rattle.std.proofs.Common.{ℕ, ◌≡◌, ◌==◌, ◌⊎◌, false, Option, Some, None, length, refl, sym, ap, ◌∙◌, inl, inr}
use Rattle.std.proofs.Math.Seq.{drop-append_seam}
use Rattle.std.proofs.lemmas.Bool.{cond-true, eq-eqb, true≢false}
use Rattle.std.proofs.lemmas.Option.{none-some, same_Some}
use Rattle.table_steps.specs.declared.data.Outcome.{Outcome}
use Rattle.table_steps.specs.Answers.{Answer}
use Rattle.table_steps.specs.Laws.{AreAnswersRecorded, IsRecorded}
use Rattle.table_steps.specs.Steps.{Finishes, answered, numbers_of}
use Rattle.table_steps.specs.World.{Answered, RequestInFlight, IsAtWork, Stage, Work, Working, World}
use Rattle.table_steps.proofs.Ended.{has_ended, not_ended}

cases_flight : (o : Option RequestInFlight) → (o ≡ None) ⊎ ((f : RequestInFlight) × (o ≡ Some f))
cases_flight None = inl refl
cases_flight (Some f) = inr (f, refl)

module _ (old new : World) (id : ℕ) (outcome : Outcome) (answer : Answer) (fin : Finishes old id outcome answer new) (told : answer.lost ≡ false) where
  -- some request was in progress
  not_lost : ((f : RequestInFlight) (work : Work) → IsAtWork old.flights id f work → ⊥) → ⊥
  not_lost none = true≢false (sym (ap (λ (a : Answer). a.lost) (fin.lost none).0) ∙ told)

  recorded_stage : (f : RequestInFlight) → old.flights id ≡ Some f → (stage : Stage) → f.stage ≡ stage → IsRecorded answer new
  recorded_stage f here (Working work) is =
      let e = fin.found f work (record { here = here; working = is }) in
      let one = answered f answer.given answer.opened in
      record {
        answered = record {
          flight = one;
          here = ap new.flights e.answer_id ∙ (ap (λ (w : World). w.flights id) e.new_is ∙ cond-true (id == id) (Some one) (old.flights id) (eq-eqb id id refl));
          before = length f.pins;
          opened = answer.opened;
          ended = refl;
        };
        given = drop-append_seam f.pins (numbers_of answer.given);
        opened = refl;
      }
  recorded_stage f here (Answered before opened) is = absurd (not_lost (λ g work at.
      let same : g ≡ f = same_Some g f (sym at.here ∙ here) in
      not_ended g work at.working (ap has_ended (ap (λ (x : RequestInFlight). x.stage) same ∙ is))))

  is_recorded : IsRecorded answer new
  is_recorded = elim (cases_flight (old.flights id)) [
    | inl none ↦ absurd (not_lost (λ g work at. none-some g (sym none ∙ at.here)))
    | inr (f, here) ↦ recorded_stage f here f.stage refl
  ]

pub answers_recorded : AreAnswersRecorded
answers_recorded old new id outcome answer fin told = is_recorded old new id outcome answer fin told
