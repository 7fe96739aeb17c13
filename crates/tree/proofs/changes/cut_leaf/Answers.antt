use Rattle.std.proofs.Common.{ℕ, ◌≡◌, Some, false, sym, ap, ◌∙◌, subst}
use Rattle.tree.specs.declared.nodes.Node.{Node}
use Rattle.tree.specs.declared.nodes.Place.TheVariants.{Cut}
use Rattle.tree.specs.Children.{parents_in, place_parent}
use Rattle.tree.specs.Moves.{cut_node}
use Rattle.tree.specs.Places.{Lookup, IsTree, with_node}
use Rattle.tree.specs.Stored.{slot_at}
use Rattle.tree.proofs.Cutting.{IsTree-cut}
use Rattle.tree.proofs.LookupLemmas.{with_same, with_twice}
use Rattle.tree.proofs.Pruning.{leaf_cut}
use Rattle.tree.proofs.Relating.{alive_written, parent_here, related_kept, related_with}
use Rattle.tree.proofs.Storing.{cut_indexed, place_found}
use Rattle.tree.proofs.changes.cut_leaf.Goals as goal

pub mark-requires : goal.mark-requires
mark-requires c =
    let h = c.requires.named.2 in
    (record h.0 { place = Cut }, ap (λ (a : Lookup). a c.args.number) (c.replace_place-was.ensures.wrote h.0 h.1) ∙ with_same (slot_at c.args.store.now.nodes) c.args.number (record h.0 { place = Cut }))

pub forget_place-requires-clause-there : goal.forget_place-requires-clause-there
forget_place-requires-clause-there c key is =
    let h = c.requires.named.2 in
    place_found (slot_at c.args.store.now.nodes) c.args.store.now.index c.args.number h.0 c.requires.stored.indexed h.1 key (sym (c.replace_place-was.ensures.was h.0 h.1) ∙ is)

-- after the node is written, and before its links are removed
marked : (at mid new : Lookup) (n : ℕ) (x : Node) → mid ≡ with_node at n (record x { place = Cut }) → ((y : Node) → mid n ≡ Some y → new ≡ with_node mid n (record y { hidden = false })) → new ≡ with_node at n (cut_node x)
marked at mid new n x placed wrote =
    let y : Node = record x { place = Cut } in
    let there = ap (λ (a : Lookup). a n) placed ∙ with_same at n y in
    wrote y there ∙ (ap (λ (a : Lookup). with_node a n (cut_node x)) placed ∙ with_twice at n y (cut_node x))

pub forget_place-requires-clause-alive : goal.forget_place-requires-clause-alive
forget_place-requires-clause-alive c =
    let h = c.requires.named.2 in
    (cut_node h.0, ap (λ (a : Lookup). a c.args.number) (marked (slot_at c.args.store.now.nodes) (slot_at c.replace_place-was.new.nodes) (slot_at c.mark.new.nodes) c.args.number h.0 (c.replace_place-was.ensures.wrote h.0 h.1) c.mark.ensures.wrote) ∙ with_same (slot_at c.args.store.now.nodes) c.args.number (cut_node h.0))

pub returns-clause-cut : goal.returns-clause-cut
returns-clause-cut c x stood = c.forget_place.ensures.nodes ∙ marked (slot_at c.args.store.now.nodes) (slot_at c.replace_place-was.new.nodes) (slot_at c.mark.new.nodes) c.args.number x (c.replace_place-was.ensures.wrote x stood) c.mark.ensures.wrote

pub returns-clause-stored : goal.returns-clause-stored
returns-clause-stored c =
    let h = c.requires.named.2 in
    let s = c.args.store.now.nodes in
    let at = slot_at s in
    let n = c.args.number in
    let final = c.forget_place.new.store.nodes in
    let new = slot_at final in
    let wrote = returns-clause-cut c h.0 h.1 in
    let was = c.replace_place-was.ensures.was h.0 h.1 in
    let gone = c.forget_place.ensures in
    let before = related_kept s c.mark.new.nodes (alive_written at (slot_at c.mark.new.nodes) n (cut_node h.0) (sym gone.nodes ∙ wrote)) (c.mark.ensures.links ∙ c.replace_place-was.ensures.links) c.requires.stored.related in
    record {
      tree = subst IsTree (sym wrote) (IsTree-cut at c.requires.stored.tree n c.requires.not_root _ (leaf_cut at n h.0 h.1 c.requires.childless));
      indexed = cut_indexed at new n h.0 c.args.store.now.index c.forget_place.new.store.index h.1 wrote c.requires.stored.indexed
          (λ k is. gone.taken k (was ∙ is))
          (λ bad. gone.same (λ k is. bad k (sym was ∙ is)));
      related = related_with at final n (cut_node h.0) wrote (gone.lawful (parents_in at) before (parent_here at n h.0 h.1 ∙ ap place_parent (sym was)));
      counted = gone.counted;
    }

pub returns-clause-less : goal.returns-clause-less
returns-clause-less c =
    let h = c.requires.named.2 in
    c.forget_place.ensures.less (record { parent = c.requires.named.0; name = c.requires.named.1 }) (c.replace_place-was.ensures.was h.0 h.1 ∙ h.2)
