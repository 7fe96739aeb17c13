-- If counts are free, a period that has just begun has room for the next call on each request: how this changes with
-- the requests.
use Rattle.std.proofs.Common.{ℕ, ◌+◌, ◌≤◌, ◌≡◌, ◌==◌, Bool, true, false, List, [], ◌∷◌, ◌++◌, Option, Some, None, cond, drop, length, sym, ap, ◌∙◌, subst, inl, inr, arith}
use Rattle.std.proofs.lemmas.Bool.{cases_eq, cond-false, cond-true, eq-eqb, ne_eqb}
use Rattle.std.proofs.lemmas.List.{drop_all, length-append, length-drop}
use Rattle.std.proofs.lemmas.Option.{none-some, same_Some}
use Rattle.table_requests.specs.declared.data.RequestInFlight.{RequestInFlight as Recorded}
use Rattle.table_requests.specs.declared.data.Stage.{Stage as Recording}
use Rattle.table_requests.specs.declared.data.Stage.TheVariants as recorded
use Rattle.table_requests.specs.RequestMaps.{RequestMaps, is_working, most_posted, with_flight, without_flight}
use Rattle.terms.specs.declared.limits.Counts.TheVariants.{Free}
use Rattle.terms.specs.declared.limits.Limits.{Limits}
use Rattle.table_steps.specs.Kept.{AreFew}

module _ (limits : Limits) (old new : RequestMaps) (id : ℕ) where
  -- one request is replaced by one that needs no more
  pub few_with : (f : Recorded) → new.at ≡ with_flight old.at id f → AreFew limits old → (limits.counts ≡ Free → limits.nodes + most_posted f.stage f.pins.numbers ≤ limits.postings) → AreFew limits new
  few_with f at was now free k g here = elim (cases_eq id k) [
    | inl e ↦
        let same : f ≡ g = same_Some f g (sym (ap (λ (all : ℕ → Option Recorded). all k) at ∙ cond-true (id == k) (Some f) (old.at k) (eq-eqb id k e)) ∙ here) in
        subst (λ (r : Recorded). limits.nodes + most_posted r.stage r.pins.numbers ≤ limits.postings) same (now free)
    | inr ne ↦ was free k g (sym (ap (λ (all : ℕ → Option Recorded). all k) at ∙ cond-false (id == k) (Some f) (old.at k) (ne_eqb id k ne)) ∙ here)
  ]

  -- one request is removed
  pub few_without : new.at ≡ without_flight old.at id → AreFew limits old → AreFew limits new
  few_without at was free k g here = elim (cases_eq id k) [
    | inl e ↦ absurd (none-some g (sym (ap (λ (all : ℕ → Option Recorded). all k) at ∙ cond-true (id == k) None (old.at k) (eq-eqb id k e)) ∙ here))
    | inr ne ↦ was free k g (sym (ap (λ (all : ℕ → Option Recorded). all k) at ∙ cond-false (id == k) None (old.at k) (ne_eqb id k ne)) ∙ here)
  ]

-- it has given nothing yet
pub none_dropped : (pins : List ℕ) → length (drop (length pins) pins) ≡ 0
none_dropped pins = ap length (drop_all (length pins) pins (omega arith))

-- it gave one more number
pub one_pinned : (st : Recording) (pins : List ℕ) (n : ℕ) → is_working st ≡ false → most_posted st (pins ++ n ∷ []) ≤ most_posted st pins + 1
one_pinned (recorded.Working work) pins n idle = absurd (cc)
one_pinned (recorded.Answered before opened) pins n idle = omega (arith, length-drop before (pins ++ n ∷ []), length-drop before pins, length-append pins (n ∷ []))
