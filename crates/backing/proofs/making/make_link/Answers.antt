use Rattle.std.proofs.Common.{refl, ap, ◌∙◌, List, ℕ}
use Rattle.backing.specs.declared.entries.Item.TheVariants.{Link}
use Rattle.backing.specs.Tree.{with_item}
use Rattle.backing.specs.Entries.{tree_of}
use Rattle.backing.proofs.making.make_link.Goals as goal

pub returns-clause-ends : goal.returns-clause-ends
returns-clause-ends c =
    let at = tree_of c.args.entries.now.items in
    (c.in_ok-put.ensures.passes, (refl, c.in_ok-put.ensures.ok ∙ ap (λ (text : List ℕ). with_item at c.args.path.now (Link text)) (c.from_vec.ensures ∙ c.in_ok-text.ensures.items)))
