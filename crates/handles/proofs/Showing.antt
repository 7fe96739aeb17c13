-- The listing in a slot of the store is the one that its value shows.
use Rattle.std.proofs.Common.{◌≡◌, IsSomeAnd, IfSome, Option, Some, None, ap}
use Rattle.std.proofs.Math.Logic.{∥∥₁_elim}
use Rattle.handles.specs.Listings.{OpenFolder}
use Rattle.handles.specs.Lending.{shown}

-- a filled slot shows the listing that it was filled with
pub shown_by : {A B : Type 0} (hand : Option (Option A)) (stored : A → B) (listing : B → OpenFolder) (fits : A → Type 0) (x : B)
    → ∥ IsSomeAnd hand (λ slot. IsSomeAnd slot fits) ∥₁ → IfSome hand (λ slot. IfSome slot (λ it. x ≡ stored it)) → listing x ≡ shown hand (λ it. listing (stored it))
shown_by None stored listing fits x filled same = absurd (∥∥₁_elim filled (λ a b. absurd a) (λ h. h))
shown_by (Some None) stored listing fits x filled same = absurd (∥∥₁_elim filled (λ a b. absurd a) (λ h. h))
shown_by (Some (Some it)) stored listing fits x filled same = ap listing same
