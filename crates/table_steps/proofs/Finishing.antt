-- The end of one request's work does not affect what others rely on, whatever its want and its outcome.
use Rattle.std.proofs.Common.{ℕ, ◌≡◌, ◌==◌, true, Option, Some, None, reverse, sym, ap, ◌∙◌, inl, inr}
use Rattle.std.proofs.lemmas.Bool.{cases_eq, cond-false, cond-true, eq-eqb, ne_eqb}
use Rattle.std.proofs.lemmas.Option.{none-some}
use Rattle.paths.specs.Prefixes.{Names}
use Rattle.tree.specs.Places.{IsPathOf, IsTree}
use Rattle.table_steps.proofs.Remaining.{stays_pinned}
use Rattle.table_steps.specs.declared.data.Outcome.{Outcome}
use Rattle.table_steps.specs.Answers.{Answer}
use Rattle.table_footprints.specs.Asked.{Holds}
use Rattle.table_footprints.specs.Laws.{IsGrounded}
use Rattle.table_steps.specs.Laws.{LeavesWork}
use Rattle.table_steps.specs.Steps.{Ends, HoldsUp, act_of, answered}
use Rattle.table_steps.specs.World.{RequestInFlight, IsAtWork, IsReady, Work, World, with_entry}
use Rattle.table_steps.proofs.Guarding.{act_own, all_entered, left_where, path_stays, reaches_swept}
use Rattle.table_steps.proofs.Staying.{KeepsPaths, holds_kept, its_row}

-- another key leads to the same as before
entry_other : {X : Type 0} → (at : ℕ → Option X) (id k : ℕ) (x : Option X) (y : X) → with_entry at id None k ≡ Some y → with_entry at id x k ≡ Some y
entry_other at id k x y h = elim (cases_eq id k) [
  | inl e ↦ absurd (none-some y (sym (cond-true (id == k) None (at k) (eq-eqb id k e)) ∙ h))
  | inr ne ↦ cond-false (id == k) x (at k) (ne_eqb id k ne) ∙ (sym (cond-false (id == k) None (at k) (ne_eqb id k ne)) ∙ h)
]

module _ (old new : World) (id : ℕ) (f : RequestInFlight) (work : Work) (outcome : Outcome) (answer : Answer) (ready : IsReady old.at f work)
    (clear : HoldsUp (with_entry old.flights id None) work.held → ⊥) (e : Ends old id f (act_of work.footprint outcome) work.footprint.entries answer new) (tree : IsTree e.entered) (tree' : IsTree new.at) where
  entered : (n : ℕ) (q : Names) → IsPathOf old.at n q → IsPathOf e.entered n q
  entered n q h = all_entered _ old.at e.entered old.postings new.postings work.footprint.entries (act_of work.footprint outcome).found answer.given e.enters n q h

  footprint : IsGrounded work.footprint
  footprint = its_row old.at e.entered tree f work (λ n pin q prefixes h. entered n q h) ready

  holds : Holds e.entered work.footprint work.held
  holds = holds_kept old.at e.entered tree work.footprint work.held footprint ready.holds f ready.pinned (λ n pin q prefixes h. entered n q h)

  keeps : (k : ℕ) (g : RequestInFlight) (v : Work) → IsAtWork (with_entry old.flights id None) k g v → KeepsPaths old.at new.at g.pins v.held
  keeps k g v here n pin q prefixes h =
      let altered : IsPathOf e.altered n q = path_stays e.entered (with_entry old.flights id None) work.footprint work.held holds clear ready.below k g v here q prefixes (act_of work.footprint outcome).change e.altered (act_own work.footprint footprint outcome) e.alters n (entered n q h) in
      let there : new.flights k ≡ Some g = ap (λ (w : World). w.flights k) e.new_is ∙ entry_other old.flights id k (Some (answered f answer.given answer.opened)) g here.here in
      let held : e.sweeps.kept n ≡ true = (e.sweeps.keeps n).1 (inl (record { id = k; flight = g; here = there; pin = pin })) in
      reaches_swept e.sweeps.kept e.altered new.at e.sweeps.swept n (reverse q) (λ x was none. none-some x (sym none ∙ stays_pinned e.sweeps.kept e.altered new.at n x e.sweeps.swept was held)) altered

  left : LeavesWork old.at new.at (with_entry old.flights id None)
  left = left_where old.at new.at (with_entry old.flights id None) tree' keeps

pub ends_harmless : (old new : World) (id : ℕ) (f : RequestInFlight) (work : Work) (outcome : Outcome) (answer : Answer) → IsReady old.at f work
    → (HoldsUp (with_entry old.flights id None) work.held → ⊥) → (e : Ends old id f (act_of work.footprint outcome) work.footprint.entries answer new) → IsTree e.entered → IsTree new.at → LeavesWork old.at new.at (with_entry old.flights id None)
ends_harmless old new id f work outcome answer ready clear e tree tree' = left old new id f work outcome answer ready clear e tree tree'
