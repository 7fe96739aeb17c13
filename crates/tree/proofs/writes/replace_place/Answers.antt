use Rattle.std.proofs.Common.{◌≡◌, rules, ◌∙◌}
use Rattle.tree.specs.Places.{with_node}
use Rattle.tree.specs.Stored.{slot_at}
use Rattle.tree.proofs.Storing.{kin_written, node_read, slot_written}
use Rattle.tree.proofs.writes.replace_place.Goals as goal

pub returns-clause-wrote : goal.returns-clause-wrote
returns-clause-wrote c x stood =
    let s = c.args.nodes.now in
    let l = c.index_mut-linked.result.now in
    let e = c.in-Some.ensures.some in
    let read = c.index_mut-linked.ensures.value in
    let same = node_read s c.args.number c.in-Some.key l l.value e read x stood in
    let after : c.replace.new.dest ≡ c.args.place = search rules in
    slot_written s c.args.number c.in-Some.key l (record l.value { place = c.replace.new.dest }) e read ∙ (λ i. with_node (slot_at s) c.args.number (record (same i) { place = after i }))

pub returns-clause-links : goal.returns-clause-links
returns-clause-links c =
    let l = c.index_mut-linked.result.now in
    kin_written c.args.nodes.now c.args.number c.in-Some.key l (record l.value { place = c.replace.new.dest }) c.in-Some.ensures.some c.index_mut-linked.ensures.value
