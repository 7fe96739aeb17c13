use Rattle.std.proofs.Common.{◌≡◌, ◌++◌, ◌∷◌, [], Contains, Some, None, refl, sym, ◌∙◌, subst, inl, inr}
use Rattle.std.proofs.lemmas.Bool.{false≢true}
use Rattle.std.proofs.lemmas.Option.{none-some, same_Some}
use Rattle.holds.specs.declared.held.Held.{Held}
use Rattle.table_requests.specs.HeldPaths.{held_under}
use Rattle.table_requests.proofs.CountedHolds.{has_owner, owned_by_one, owner_has}
use Rattle.table_requests.proofs.held_paths.holds_exclusively.Goals as goal

pub returns-then-is_counted_exclusive : goal.returns-then-is_counted_exclusive
returns-then-is_counted_exclusive c = (
  λ h. has_owner c.args.held.now c.args.flights.now c.requires.apart c.requires.told (c.args.parent.now ++ c.args.name.now ∷ []) (c.is_counted_exclusive.ensures.0 c.if-is_counted_exclusive.true),
  λ h. refl,
)

pub returns-in-Some : goal.returns-in-Some
returns-in-Some c =
    let path = c.args.parent.now ++ c.args.name.now ∷ [] in
    let held = c.in-Some.held.now in
    let is : held_under c.args.flights.now c.args.held.now.uncounted ≡ Some held = sym c.in-Some.ensures in (
      λ h. owned_by_one c.args.held.now c.args.flights.now c.requires.apart c.requires.told path (held, is, c.contains_name.ensures.0 h),
      λ h. elim (owner_has c.args.held.now c.args.flights.now c.requires.apart c.requires.told path h) [
        | inl counted ↦ absurd (false≢true (sym c.if-is_counted_exclusive.false ∙ c.is_counted_exclusive.ensures.1 counted))
        | inr (other, found, own) ↦ c.contains_name.ensures.1 (subst (λ (k : Held). Contains k.exclusive path) (same_Some other held (sym found ∙ is)) own)
      ],
    )

pub returns-in-None : goal.returns-in-None
returns-in-None c =
    let path = c.args.parent.now ++ c.args.name.now ∷ [] in
    let none : held_under c.args.flights.now c.args.held.now.uncounted ≡ None = sym c.in-None.ensures in (
      λ bad. absurd (false≢true bad),
      λ h. elim (owner_has c.args.held.now c.args.flights.now c.requires.apart c.requires.told path h) [
        | inl counted ↦ absurd (false≢true (sym c.if-is_counted_exclusive.false ∙ c.is_counted_exclusive.ensures.1 counted))
        | inr (other, found, own) ↦ absurd (none-some other (sym none ∙ found))
      ],
    )
