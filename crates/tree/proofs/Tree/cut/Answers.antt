use Rattle.std.proofs.Common.{◌≡◌, sym, ap, ◌∙◌, subst}
use Rattle.tree.specs.Places.{Lookup, Nodes, at_in, IsTree, Leads}
use Rattle.tree.specs.Stored.{slot_at}
use Rattle.tree.specs.Moves.{IsFault, CutsBelow}
use Rattle.tree.proofs.Slots.{seen_at}
use Rattle.tree.proofs.Counting.{rest_is}
use Rattle.tree.proofs.Listing.{lists_as}
use Rattle.std.proofs.lemmas.Result.{err_from_is_err_and}
use Rattle.tree.proofs.Climbing.{path_of_lead}
use Rattle.tree.proofs.Cutting.{Changes-cut}
use Rattle.tree.proofs.Stepping.{named_lead}
use Rattle.tree.proofs.Tree.cut.Goals as goal

pub cut_leaves-requires-clause-named : goal.cut_leaves-requires-clause-named
cut_leaves-requires-clause-named c =
    let leads = c.in_ok-expect_path.ensures.ok in
    named_lead (slot_at c.self.inside.store.nodes) c.args.number c.requires leads.names leads.climb

pub returns-in_err-expect_path-clause-err : goal.returns-in_err-expect_path-clause-err
returns-in_err-expect_path-clause-err c =
    let same : slot_at c.self.inside.store.nodes ≡ at_in c.args.self.now = sym (seen_at c.self.inside.store.nodes c.self.invariant.stored.tree.numbered) ∙ ap at_in c.self.view_is in
    let p = err_from_is_err_and c.from_residual.result c.from_residual.ensures.1 in
    rw (p.1, p.2) (subst (λ (at : Lookup). IsFault at c.args.number c.in_err-expect_path.field-0.0) same (c.in_err-expect_path.ensures.err))

pub returns-in_err-expect_path-clause-tree : goal.returns-in_err-expect_path-clause-tree
returns-in_err-expect_path-clause-tree c =
    let same : slot_at c.self.inside.store.nodes ≡ at_in c.args.self.now = sym (seen_at c.self.inside.store.nodes c.self.invariant.stored.tree.numbered) ∙ ap at_in c.self.view_is in
    subst IsTree same c.self.invariant.stored.tree

pub returns-clause-ok : goal.returns-clause-ok
returns-clause-ok c =
    let same : slot_at c.self.inside.store.nodes ≡ at_in c.args.self.now = sym (seen_at c.self.inside.store.nodes c.self.invariant.stored.tree.numbered) ∙ ap at_in c.self.view_is in
    let leads = c.in_ok-expect_path.ensures.ok in
    let was = subst (λ (at : Lookup). CutsBelow at (slot_at c.cut_leaves.new.store.nodes) c.args.number) same c.cut_leaves.ensures.cuts in
    let below = subst (λ (at : Lookup). CutsBelow (at_in c.args.self.now) at c.args.number) (sym (seen_at c.cut_leaves.new.store.nodes c.cut_leaves.ensures.stored.tree.numbered)) was in
    let tree = subst IsTree same c.self.invariant.stored.tree in
    let way = path_of_lead (at_in c.args.self.now) c.args.number (subst (λ (at : Lookup). Leads at c.args.number) same leads) in
    record {
      path = way.0;
      leads = way.1;
      below = below;
      changes = Changes-cut (at_in c.args.self.now) tree c.args.number c.requires _ below way.0 way.1;
      lists = lists_as _ _ _ _ _ _ _ same (sym (seen_at c.cut_leaves.new.store.nodes c.cut_leaves.ensures.stored.tree.numbered)) (ap (λ (t : Nodes). t.newly_cut) c.self.view_is) c.cut_leaves.ensures.lists;
      rest = rest_is c.args.self.now _
          (c.cut_leaves.ensures.len ∙ ap (λ (t : Nodes). t.living) c.self.view_is)
          (c.cut_leaves.ensures.counts ∙ ap (λ (t : Nodes). t.counts) c.self.view_is)
          (ap (λ (t : Nodes). t.limit) c.self.view_is)
          (ap (λ (t : Nodes). t.room) c.self.view_is);
    }

pub returns-clause-tree : goal.returns-clause-tree
returns-clause-tree c = subst IsTree (sym (seen_at c.cut_leaves.new.store.nodes c.cut_leaves.ensures.stored.tree.numbered)) c.cut_leaves.ensures.stored.tree
