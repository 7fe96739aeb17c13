use Rattle.std.proofs.Common.{ℕ, List, inl, inr, refl, sym, ◌∙◌, subst, subst₂}
use Rattle.engine.specs.declared.classes.Class.{Class}
use Rattle.engine_turns.specs.Verdicts.{VerdictBy}
use Rattle.engine_turns.proofs.job.Job.agrees_after.Goals as goal

pub returns-in-Ok : goal.returns-in-Ok
returns-in-Ok c =
    let s = c.args.self.now in
    subst₂ (λ (k : Class) (f : List ℕ). VerdictBy k s.agreed f c.greeted.result) (sym c.in-InitFrame.is ∙ s.classed) c.as_slice.ensures.value
    (inl (c.in-Ok.request, c.in-Ok.ensures.found, c.greeted.ensures))

pub returns-in-Err : goal.returns-in-Err
returns-in-Err c =
    let s = c.args.self.now in
    subst₂ (λ (k : Class) (f : List ℕ). VerdictBy k s.agreed f s.agreed) (sym c.in-InitFrame.is ∙ s.classed) c.as_slice.ensures.value
    (inr (c.in-Err._fault, c.in-Err.ensures.fault, refl))
