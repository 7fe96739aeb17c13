use Rattle.std.proofs.Common.{◌≡◌, Some, None, refl, sym, ◌∙◌, subst, inl, inr}
use Rattle.std.proofs.lemmas.Bool.{false≢true}
use Rattle.std.proofs.lemmas.Option.{none-some, same_Some}
use Rattle.holds.specs.declared.held.Held.{Held}
use Rattle.holds.specs.Conflicts.{Conflict}
use Rattle.table_requests.specs.HeldPaths.{held_under}
use Rattle.table_requests.proofs.CountedHolds.{held_up, up_by_one, up_held}
use Rattle.table_requests.proofs.held_paths.holds_up.Goals as goal

pub returns-then-holds_up : goal.returns-then-holds_up
returns-then-holds_up c = (
  λ h. held_up c.args.held.now c.args.flights.now c.requires.apart c.requires.told c.args.wanted.now (c.holds_up.ensures.0 c.if-holds_up.true),
  λ h. refl,
)

pub returns-in-Some : goal.returns-in-Some
returns-in-Some c =
    let held = c.in-Some.held.now in
    let is : held_under c.args.flights.now c.args.held.now.uncounted ≡ Some held = sym c.in-Some.ensures in (
      λ h. up_by_one c.args.held.now c.args.flights.now c.requires.apart c.requires.told c.args.wanted.now (held, is, c.conflicts_with.ensures.0 h),
      λ h. elim (up_held c.args.held.now c.args.flights.now c.requires.apart c.requires.told c.args.wanted.now h) [
        | inl counted ↦ absurd (false≢true (sym c.if-holds_up.false ∙ c.holds_up.ensures.1 counted))
        | inr (other, found, way) ↦ c.conflicts_with.ensures.1 (subst (λ (k : Held). Conflict k c.args.wanted.now) (same_Some other held (sym found ∙ is)) way)
      ],
    )

pub returns-in-None : goal.returns-in-None
returns-in-None c =
    let none : held_under c.args.flights.now c.args.held.now.uncounted ≡ None = sym c.in-None.ensures in (
      λ bad. absurd (false≢true bad),
      λ h. elim (up_held c.args.held.now c.args.flights.now c.requires.apart c.requires.told c.args.wanted.now h) [
        | inl counted ↦ absurd (false≢true (sym c.if-holds_up.false ∙ c.holds_up.ensures.1 counted))
        | inr (other, found, way) ↦ absurd (none-some other (sym none ∙ found))
      ],
    )
