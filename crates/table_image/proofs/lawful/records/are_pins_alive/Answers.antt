use Rattle.std.proofs.Common.{ℕ, ◌≡◌, ◌==◌, ◌↔◌, IsTrue, All, List, true, get_or, rules, ◌∙◌, subst, refl}
use Rattle.std.specs.List.{list_any}
use Rattle.std.proofs.lemmas.Bool.{eqb-true, eq-eqb}
use Rattle.std.proofs.lemmas.List.Folds.{Any-from_list_any, list_any_at}
use Rattle.tree.specs.Places.{Lookup}
use Rattle.tree.specs.Listed.{node_at}
use Rattle.table_image.specs.declared.data.Record.{Record}
use Rattle.table_law.specs.Law.{AreAlive}
use Rattle.table_image.specs.ImageLaw.{is_pinned}
use Rattle.table_image.specs.Parts.{IsLiving, PinsLiving}
use Rattle.table_image.proofs.lawful.records.are_pins_alive.Goals as goal

among : (at : Lookup) (numbers : List ℕ) (n : ℕ) → All (IsLiving at) numbers → list_any (λ m. m == n) numbers ≡ true → IsLiving at n
among at numbers n each is =
    let some = Any-from_list_any (λ m. m == n) numbers is in
    subst (IsLiving at) (some.3 ∙ eqb-true some.1 n some.4) (each some.0 some.1 some.2)

living : (at : Lookup) (records : List Record) → All (PinsLiving at) records → AreAlive at (is_pinned records)
unfolding IsLiving PinsLiving
living at records each n is =
    let some = Any-from_list_any (λ (r : Record). list_any (λ m. m == n) r.pins) records is in
    let here : PinsLiving at some.1 = subst (PinsLiving at) some.3 (each some.0 some.1 some.2) in
    among at some.1.pins n here some.4

pinned : (at : Lookup) (records : List Record) → AreAlive at (is_pinned records) → All (PinsLiving at) records
unfolding IsLiving PinsLiving
pinned at records alive k d within j e inside =
    let r : Record = get_or records k d in
    let m : ℕ = get_or r.pins j e in
    alive m (list_any_at (λ (q : Record). list_any (λ i. i == m) q.pins) records k d within (list_any_at (λ i. i == m) r.pins j e inside (eq-eqb m m refl)))

pub returns : goal.returns
returns c =
    let at = node_at c.args.nodes.now in
    let each : IsTrue c.all.result ↔ All (PinsLiving at) c.args.records.now = search rules in
    (λ yes. living at c.args.records.now (each.0 yes), λ law. each.1 (pinned at c.args.records.now law))
