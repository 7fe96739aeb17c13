use Rattle.std.proofs.Common.{refl, ap, ◌∙◌, List, ℕ}
use Rattle.backing.specs.declared.entries.Item.TheVariants.{File}
use Rattle.backing.specs.Tree.{with_item}
use Rattle.backing.specs.Entries.{tree_of}
use Rattle.backing.proofs.making.make.Goals as goal

pub returns-clause-ends : goal.returns-clause-ends
returns-clause-ends c permissions =
    let at = tree_of c.args.entries.now.items in
    (c.in_ok-put.ensures.passes, (refl, c.in_ok-put.ensures.ok ∙ ap (λ (bytes : List ℕ). with_item at c.args.path.now (File bytes)) c.new.ensures))
