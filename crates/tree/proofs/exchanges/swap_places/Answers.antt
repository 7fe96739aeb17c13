use Rattle.std.proofs.Common.{◌≡◌, Some, sym, ap, ◌∙◌}
use Rattle.tree.specs.declared.nodes.Node.{Node}
use Rattle.tree.specs.declared.nodes.Place.TheVariants.{Cut}
use Rattle.tree.specs.Places.{Lookup, with_node}
use Rattle.tree.specs.Stored.{slot_at}
use Rattle.tree.proofs.Exchanging.{swapped_nodes}
use Rattle.tree.proofs.LookupLemmas.{with_other, with_same}
use Rattle.tree.proofs.Swapping.{with_around}
use Rattle.tree.proofs.exchanges.swap_places.Goals as goal

pub replace_place-second-requires : goal.replace_place-second-requires
replace_place-second-requires c =
    let at = slot_at c.args.nodes.now in
    let x = c.requires.first.0 in
    let gone : Node = record x { place = Cut } in
    (c.requires.second.0, ap (λ (a : Lookup). a c.args.two) (c.replace_place-first.ensures.wrote x c.requires.first.1) ∙ (with_other at c.args.one gone c.args.two c.requires.differ ∙ c.requires.second.1))

pub replace_place-cut-requires : goal.replace_place-cut-requires
replace_place-cut-requires c =
    let at = slot_at c.args.nodes.now in
    let mid = slot_at c.replace_place-first.new.nodes in
    let x = c.requires.first.0 in
    let y = c.requires.second.0 in
    let gone : Node = record x { place = Cut } in
    let put : Node = record y { place = c.replace_place-first.result } in
    let first = c.replace_place-first.ensures.wrote x c.requires.first.1 in
    let there : mid c.args.two ≡ Some y = ap (λ (a : Lookup). a c.args.two) first ∙ (with_other at c.args.one gone c.args.two c.requires.differ ∙ c.requires.second.1) in (
      gone,
      ap (λ (a : Lookup). a c.args.one) (c.replace_place-second.ensures.wrote y there)
          ∙ (with_other mid c.args.two put c.args.one (λ e. c.requires.differ (sym e)) ∙ (ap (λ (a : Lookup). a c.args.one) first ∙ with_same at c.args.one gone)),
    )

pub returns-clause-swapped : goal.returns-clause-swapped
returns-clause-swapped c x y here here' =
    let at = slot_at c.args.nodes.now in
    let mid = slot_at c.replace_place-first.new.nodes in
    let one = c.args.one in
    let two = c.args.two in
    let gone : Node = record x { place = Cut } in
    let put : Node = record y { place = c.replace_place-first.result } in
    let last : Node = record x { place = c.replace_place-second.result } in
    let first : mid ≡ with_node at one gone = c.replace_place-first.ensures.wrote x here in
    let there : mid two ≡ Some y = ap (λ (a : Lookup). a two) first ∙ (with_other at one gone two c.requires.differ ∙ here') in
    let second = c.replace_place-second.ensures.wrote y there in
    let back = ap (λ (a : Lookup). a one) second ∙ (with_other mid two put one (λ e. c.requires.differ (sym e)) ∙ (ap (λ (a : Lookup). a one) first ∙ with_same at one gone)) in
    let third = c.replace_place-cut.ensures.wrote gone back in
    let at_two = c.replace_place-first.ensures.was x here in
    let at_one = c.replace_place-second.ensures.was y there in
    third ∙ (ap (λ (a : Lookup). with_node a one last) (second ∙ ap (λ (a : Lookup). with_node a two put) first)
    ∙ (with_around at one two gone put last c.requires.differ ∙ (λ i. swapped_nodes at one (record x { place = at_one i }) two (record y { place = at_two i }))))
