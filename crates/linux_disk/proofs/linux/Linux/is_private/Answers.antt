use Rattle.std.proofs.Common.{ℕ, IsTrue, refl, subst₂}
use Rattle.std.proofs.Math.Logic.{∥∥₁_map}
use Rattle.linux_disk.specs.Places.{WasPrivate}
use Rattle.linux_disk.proofs.linux.Linux.is_private.Goals as goal

-- What was seen of that very folder, by the user that the process acts as, is what the cell's type says of it.
pub returns-then-is_fresh : goal.returns-then-is_fresh
returns-then-is_fresh g c = λ told.
    let private : Type 0 = IsTrue c.in-Some.seen.is_private in
    let Safe : ℕ → ℕ → Type 0 = λ user stamp. ∥ (private → WasPrivate g.C.SystemCalls.did user stamp) ∥₁ in
    ∥∥₁_map (subst₂ Safe (c.if-is_fresh.ensures.user refl) (c.if-is_fresh.ensures.stamp refl) c.in-Some.seen.safe) (λ safe. safe told)
