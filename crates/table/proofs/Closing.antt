-- The end of a period does not affect the book, nor what requests rely on.
use Rattle.std.proofs.Common.{ℕ, ◌≡◌, ◌⊎◌, inl, inr, refl, sym, ap, ◌∙◌, subst}
use Rattle.ledger.specs.declared.shares.Totals.{Totals}
use Rattle.ledger.specs.Shares.{Part, plus}
use Rattle.ledger.specs.Sums.{totals_over}
use Rattle.terms.specs.declared.limits.Counts.TheVariants.{Bounded, Free}
use Rattle.table_steps.specs.declared.state.State.{State}
use Rattle.table_steps.specs.Kept.{IsKept, IsWhole, world_of}
use Rattle.table_steps.specs.Steps.{ClosesPeriod, MakesRoom}
use Rattle.table_steps.specs.World.{AreUndisturbed, World}
use Rattle.table_steps.proofs.PeriodSums.{period_totals}
use Rattle.table.specs.Gains.{Gains, GainsInAll}
use Rattle.table.proofs.Gaining.{gains_in_all}

module _ (old new : State) where
  pub book_closed : (fewer : ℕ) → ClosesPeriod (world_of old) fewer (world_of new) → totals_over old.ledger.made ≡ totals_over new.ledger.made
  book_closed fewer closes = sym (period_totals (world_of old) (world_of new) fewer closes)

  pub whole_closed : IsWhole old → new ≡ record old { ledger = new.ledger } → IsKept new → IsWhole new
  whole_closed whole rest kept = record {
    kept = kept;
    undisturbed = subst (λ (s : State). AreUndisturbed (world_of s).at (world_of s).files (world_of s).flights) (sym rest) whole.undisturbed;
  }

-- ---- a period that ends when it is due, or when it has no room

module _ (old new : World) {Why : Type 0} (ends : ((Why → ⊥) × (new ≡ old)) ⊎ (Why × ((fewer : ℕ) × ClosesPeriod old fewer new))) where
  -- the totals of all periods do not change
  pub totals_renewed : totals_over new.postings ≡ totals_over old.postings
  totals_renewed = elim ends [
    | inl none ↦ ap (λ (w : World). totals_over w.postings) none.1
    | inr due ↦ period_totals old new due.1.0 due.1.1
  ]

  -- nor does anything except the ledger
  pub renewed_is : new ≡ record old { postings = new.postings }
  renewed_is = elim ends [
    | inl none ↦ subst (λ (w : World). w ≡ record old { postings = w.postings }) (sym none.1) refl
    | inr due ↦ due.1.1.new_is
  ]

  pub flights_renewed : (id : ℕ) → new.flights id ≡ old.flights id
  flights_renewed id = ap (λ (w : World). w.flights id) renewed_is

-- if counts are bounded, no period ends for lack of room
pub bounded_stays : (old new : World) (n : ℕ) → old.limits.counts ≡ Bounded → MakesRoom old n new → new ≡ old
bounded_stays old new n bounded room = elim room [
  | inl none ↦ none.1
  | inr short ↦ let bad : Bounded ≡ Free = sym bounded ∙ short.0.0 in cc
]

-- what is gained afterwards is gained in all
pub gains_renewed : (old mid new : World) (n : ℕ) (before after : Part) → MakesRoom old n mid → Gains mid before new after → GainsInAll old before new after
gains_renewed old mid new n before after room gains =
    let all = gains_in_all mid new before after gains in
    record {
      lawful = all.lawful;
      more = all.more;
      ledger = all.ledger ∙ ap (λ (t : Totals). plus t all.more) (totals_renewed old mid room);
      share = all.share;
    }
