use Rattle.std.proofs.Common.{ℕ, ◌≡◌, ◌||◌, ◌↔◌, ◌⊎◌, Contains, Some, rules, sym, ◌∙◌, subst}
use Rattle.table_requests.specs.Roomy.{Pinned}
use Rattle.std.specs.Prelude.{is_none}
use Rattle.table_footprints.proofs.gatherings.Gathering.add.Goals.{then-self, else-self}
use Rattle.table_footprints.proofs.gatherings.Gathering.add.Goals as goal

pub returns : goal.returns
returns c =
    let absent : c.if-self.self ≡ (c.args.self.now.absent || is_none c.args.found.node) = elim c.if-self.branch [
      | then-self w ↦ rw (w.self-is, w.if-self.true) (search rules)
      | else-self w ↦ rw (w.self-is, w.if-self.false) (search rules)
    ] in
    record {
      given = search rules;
      shared = search rules;
      exclusive = search rules;
      paths = search rules;
      pins = subst (λ (p : Pinned). (n : ℕ) → Contains p.numbers n ↔ (Contains c.args.self.now.pins.numbers n ⊎ ((c.args.number ≡ n) ⊎ (c.args.found.node ≡ Some n)))) (sym c.in_ok-hold.ensures.pins) c.pin.ensures.pins;
      room = search rules;
      absent = c.in_ok-hold.ensures.absent ∙ absent;
    }
