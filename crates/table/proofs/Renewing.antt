-- How far the last period is, is determined.
use Rattle.std.proofs.Common.{ℕ, ◌+◌, ◌≡◌, length, subst, sym, ◌∙◌, arith}
use Rattle.collections.proofs.Once.{sum_once}
use Rattle.table_steps.specs.World.{World}
use Rattle.table.specs.Made.{IsDueBy, IsMade}
use Rattle.table.specs.Renewing.{IsDue}
use Rattle.table.specs.declared.periods.Made.{Made}

made_once : (w : World) (a b : Made) → IsMade w a → IsMade w b → a ≡ b
made_once w a b is_a is_b =
    let postings : a.postings ≡ b.postings = is_a.postings ∙ sym is_b.postings in
    let limit : a.limit ≡ b.limit = is_a.limit ∙ sym is_b.limit in
    let more = sum_once w.at (λ x. 1) (a.living + 1) (b.living + 1) is_a.living is_b.living in
    let living : a.living ≡ b.living = omega arith in
    λ i. record { postings = postings i; limit = limit i; living = living i }

pub not_due : (w : World) (made : Made) → IsMade w made → (IsDueBy made → ⊥) → IsDue w → ⊥
not_due w made is_made none due = none (subst (λ (m : Made). IsDueBy m) (made_once w due.made made due.is_made is_made) due.due)
