use Rattle.std.proofs.Common.{ℕ, ◌≡◌, ◌↔◌, IsTrue, List, Some, rules, subst}
use Rattle.std.specs.Prelude.{Any}
use Rattle.tree.specs.declared.nodes.Node.{Node}
use Rattle.tree.specs.Places.{HasChild}
use Rattle.tree.specs.Listed.{node_at, IsDistinct}
use Rattle.tree.proofs.LookupLemmas.{node_at_found, found_node}
use Rattle.table_image.specs.Parts.{IsChildOf}
use Rattle.table_image.proofs.lawful.records.has_child.Goals as goal

child_listed : (xs : List Node) (p : ℕ) → IsDistinct xs → Any (IsChildOf p) xs → HasChild (node_at xs) p
unfolding IsChildOf
child_listed xs p distinct some =
    let x : Node = some.1 in
    let here : node_at xs x.number ≡ Some x = subst (λ (w : Node). node_at xs w.number ≡ Some w) some.3 (node_at_found xs some.0 x distinct some.2) in
    (x.number, some.4.0, (x, here, some.4.1))

child_led : (xs : List Node) (p : ℕ) → HasChild (node_at xs) p → Any (IsChildOf p) xs
unfolding IsChildOf
child_led xs p h =
    let it = found_node xs h.0 h.2.0 h.2.1 in
    (it.0, h.2.0, it.1, it.2 h.2.0, (h.1, h.2.2))

pub returns : goal.returns
returns c =
    let xs = c.args.nodes.now in
    let each : IsTrue c.any.result ↔ Any (IsChildOf c.args.number) xs = search rules in
    (λ yes. child_listed xs c.args.number c.requires (each.0 yes), λ h. each.1 (child_led xs c.args.number h))
