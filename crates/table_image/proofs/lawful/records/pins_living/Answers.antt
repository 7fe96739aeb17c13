use Rattle.std.proofs.Common.{ℕ, ◌↔◌, IsTrue, All, List, subst}
use Rattle.tree.specs.Listed.{node_at}
use Rattle.table_image.specs.Parts.{IsLiving, PinsLiving}
use Rattle.table_image.proofs.lawful.records.pins_living.Goals as goal

pub returns : goal.returns
unfolding PinsLiving
returns c =
    let at = node_at c.args.nodes.now in
    let each : IsTrue c.are_alive.result ↔ All (IsLiving at) c.args.holder.now.pins =
    subst (λ (ns : List ℕ). IsTrue c.are_alive.result ↔ All (IsLiving at) ns) c.as_slice.ensures c.are_alive.ensures in
    each
