use Rattle.std.proofs.Common.{◌≡◌, sym, ap, ◌∙◌, subst}
use Rattle.tree.specs.Places.{Lookup, at_in, IsTree, HasChild}
use Rattle.tree.specs.Children.{parents_in}
use Rattle.tree.specs.Stored.{slot_at}
use Rattle.tree.proofs.Relating.{child_named, childless_last}
use Rattle.tree.proofs.Slots.{seen_at}
use Rattle.tree.proofs.Tree.has_child.Goals as goal

pub returns-clause-yes : goal.returns-clause-yes
returns-clause-yes c h =
    let at = slot_at c.self.inside.store.nodes in
    let same : at ≡ at_in c.args.self.now = sym (seen_at c.self.inside.store.nodes c.self.invariant.stored.tree.numbered) ∙ ap at_in c.self.view_is in
    let it = c.has_children.ensures.yes (parents_in at) c.self.invariant.stored.related h in
    let named = child_named at it.0 c.args.number it.1 in
    subst (λ (a : Lookup). HasChild a c.args.number) same (it.0, named.0, named.1)

pub returns-clause-no : goal.returns-clause-no
returns-clause-no c h =
    let at = slot_at c.self.inside.store.nodes in
    let same : at ≡ at_in c.args.self.now = sym (seen_at c.self.inside.store.nodes c.self.invariant.stored.tree.numbered) ∙ ap at_in c.self.view_is in
    subst (λ (a : Lookup). HasChild a c.args.number → ⊥) same (childless_last at c.args.number (c.has_children.ensures.no (parents_in at) c.self.invariant.stored.related h))

pub returns-clause-tree : goal.returns-clause-tree
returns-clause-tree c =
    let same : slot_at c.self.inside.store.nodes ≡ at_in c.args.self.now = sym (seen_at c.self.inside.store.nodes c.self.invariant.stored.tree.numbered) ∙ ap at_in c.self.view_is in
    subst IsTree same c.self.invariant.stored.tree
