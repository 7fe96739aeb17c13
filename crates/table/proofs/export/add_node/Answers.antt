use Rattle.std.proofs.Common.{◌≡◌, sym}
use Rattle.tree.specs.Places.{at_in}
use Rattle.table_image.proofs.Exported.{ListsBelow-push}
use Rattle.table.proofs.export.add_node.Goals as goal

pub returns : goal.returns
returns c =
    let x = c.in-Some.node.now in
    let stood = sym c.in-Some.ensures.found in
    let number : x.number ≡ c.args.number = c.in-Some.ensures.tree.numbered c.args.number x stood in
    rw (c.in_ok-push.ensures.items, c.in_ok-copy.ensures) (ListsBelow-push (at_in c.args.tree.now) c.args.number c.args.nodes.now.items x stood number c.requires)
