use Rattle.std.proofs.Common.{◌≡◌, ◌≢◌, All, rules, arith, sym, ap, ◌∙◌, inl, inr}
use Rattle.table_image.specs.declared.data.Hold.{Hold}
use Rattle.table_image.specs.ImageLaw.{IsCountOf}
use Rattle.table_image.proofs.Counted.{stored_or_absent}
use Rattle.table_image.proofs.Exported.{ListsHeld-push, Stores-push}
use Rattle.table.specs.Copies.{exclusive_in_all, sharers_in}
use Rattle.table.proofs.export.add_hold.Goals as goal

pub returns-clause-lists : goal.returns-clause-lists
returns-clause-lists c =
    let fs = c.args.flights.now.flights in
    let hs = c.args.holds.now.items in
    let p = c.args.path.now in
    let copy = c.in_ok-copy.copy in
    let h : Hold = record { path = copy; shared = c.shared_on.result; exclusive = c.exclusive_on.result } in
    let same : copy ≡ p = c.in_ok-copy.ensures in
    let new : All (λ (k : Hold). k.path ≢ p) hs = elim (stored_or_absent hs p) [
      | inl stored ↦ absurd (search rules)
      | inr none ↦ none
    ] in
    let fresh : All (λ (k : Hold). k.path ≢ copy) hs = λ k d within e. new k d within (e ∙ same) in
    let sharing : c.shared_on.result ≡ sharers_in fs copy = c.shared_on.ensures ∙ ap (sharers_in fs) (sym same) in
    let owning : c.exclusive_on.result ≡ exclusive_in_all fs copy = c.exclusive_on.ensures ∙ ap (exclusive_in_all fs) (sym same) in
    let counts : IsCountOf (sharers_in fs) (exclusive_in_all fs) h = record {
      sharing = sharing;
      owning = owning;
      held = omega (arith, c.requires.held.some, c.shared_on.ensures, c.exclusive_on.ensures);
    } in
    rw c.in_ok-push.ensures.items (ListsHeld-push (sharers_in fs) (exclusive_in_all fs) hs h fresh counts c.requires.lists)

pub returns-clause-stores : goal.returns-clause-stores
returns-clause-stores c =
    let hs = c.args.holds.now.items in
    let h : Hold = record { path = c.in_ok-copy.copy; shared = c.shared_on.result; exclusive = c.exclusive_on.result } in
    rw (c.in_ok-push.ensures.items, sym c.in_ok-copy.ensures) (Stores-push hs h)
