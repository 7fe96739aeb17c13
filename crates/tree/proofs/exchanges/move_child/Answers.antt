use Rattle.std.proofs.Common.{Some, None, refl}
use Rattle.collections.specs.Links.{with_parent}
use Rattle.collections.proofs.Written.{if_same, lawful_as, there_as}
use Rattle.tree.proofs.Relating.{parent_twice}
use Rattle.tree.proofs.exchanges.move_child.Goals as goal

pub add_child-requires-clause-there : goal.add_child-requires-clause-there
add_child-requires-clause-there c = there_as c.args.nodes.now c.remove_child.new.nodes c.remove_child.ensures.values c.args.child c.requires.there

pub add_child-requires-clause-above : goal.add_child-requires-clause-above
add_child-requires-clause-above c = there_as c.args.nodes.now c.remove_child.new.nodes c.remove_child.ensures.values c.args.to c.requires.above

pub returns-clause-lawful : goal.returns-clause-lawful
returns-clause-lawful c parents law under =
    let n = c.args.child in
    let alone = with_parent parents n None in
    let placed = c.add_child.ensures.lawful alone (c.remove_child.ensures.lawful parents law under) (if_same n n None (parents n) refl) in
    let final = c.add_child.new.nodes in
    let there = placed.there in
    lawful_as (with_parent alone n (Some c.args.to)) (with_parent parents n (Some c.args.to)) final final (parent_twice parents n None (Some c.args.to)) refl there placed
