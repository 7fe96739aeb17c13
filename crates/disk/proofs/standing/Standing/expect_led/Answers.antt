use Rattle.std.proofs.Common.{◌≡◌, ◌+◌, ◌-◌, length, Some, ap, ◌∙◌, arith}
use Rattle.backing.specs.declared.entries.Item.TheVariants as items
use Rattle.backing.proofs.Tests.{then_ok}
use Rattle.disk.specs.ReachedLemmas.{tree_of_is_tree}
use Rattle.disk.specs.declared.spot.Content.{Content}
use Rattle.disk.specs.Spots.{item_of, tree_of}
use Rattle.disk.proofs.Leading.{leads_under}
use Rattle.disk.proofs.standing.Standing.expect_led.Goals as goal

pub returns-in-Some-clause-ok : goal.returns-in-Some-clause-ok
returns-in-Some-clause-ok c =
    let spots = c.args.self.now in
    let p = c.args.path.now in
    let up = c.in-Ok.up in
    let x = c.in-Some.spot.now in
    let it = c.in-Some.ensures.found in
    let long : length p ≡ c.len-2.result - 1 + 1 = let one = c.len.ensures in let two = c.len-2.ensures in let some = c.if-len-eq0.false in omega arith in
    then_ok c.expect_folder.result (λ folder.
    let stands : tree_of spots up ≡ Some items.Folder = it.stands ∙ ap (λ (content : Content). Some (item_of content)) folder in
    leads_under (tree_of spots) up p (c.len-2.result - 1) (tree_of_is_tree spots) long c.in-Ok.ensures stands) c.expect_folder.ensures.ok
