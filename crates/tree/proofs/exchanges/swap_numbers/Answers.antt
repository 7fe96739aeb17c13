use Rattle.std.proofs.Common.{◌≡◌, ◌==◌, if◌then◌else◌, Option, ℕ, Some, refl, ap, ◌∙◌, is_some, inl, inr}
use Rattle.std.proofs.lemmas.Bool.{cases_Bool, cond-false, cond-true}
use Rattle.collections.specs.Living.{found}
use Rattle.tree.specs.declared.nodes.Node.{Node}
use Rattle.tree.specs.Keys.{same_key}
use Rattle.tree.specs.Moves.{moved_node}
use Rattle.collections.specs.Links.{with_parent}
use Rattle.collections.proofs.Written.{if_other}
use Rattle.tree.specs.Children.{parents_in}
use Rattle.tree.specs.declared.nodes.Key.{Key}
use Rattle.tree.specs.Places.{IsAlive, IsNamed, Lookup, with_node}
use Rattle.tree.specs.Stored.{slot_at}
use Rattle.tree.proofs.Climbing.{place_same}
use Rattle.tree.proofs.Exchanging.{swap_first, swap_other, swap_second, swapped_nodes}
use Rattle.tree.proofs.Relating.{alive_written, named_child, parents_with, related_as, related_kept}
use Rattle.tree.proofs.Swapping.{IsIndexed-swapped}
use Rattle.tree.proofs.exchanges.swap_numbers.Goals as goal

pub set-requires : goal.set-requires
set-requires c = record { there = ap (λ (o : Option ℕ). is_some o) (c.requires.stored.indexed.whole c.args.at_one.now c.args.one c.requires.first) }

pub set-requires-2 : goal.set-requires-2
set-requires-2 c =
    let k = c.args.at_one.now in
    let q = c.args.at_two.now in
    let m = c.args.store.now.index in
    let there = c.requires.stored.indexed.whole q c.args.two c.requires.second in
    record {
      there = elim (cases_Bool (same_key k q)) [
        | inl hit ↦ ap (λ (o : Option ℕ). is_some o) (c.set.ensures.set q ∙ cond-true (same_key k q) (Some c.args.two) (found same_key m q) hit)
        | inr miss ↦ ap (λ (o : Option ℕ). is_some o) (c.set.ensures.set q ∙ (cond-false (same_key k q) (Some c.args.two) (found same_key m q) miss ∙ there))
      ];
    }

-- after the places are swapped, and before the links are
swapped : (at new : Lookup) (one two : ℕ) (ka kb : Key) → IsNamed at one ka.parent ka.name → IsNamed at two kb.parent kb.name → (x y : Node) → at one ≡ Some x → at two ≡ Some y
    → new ≡ with_node (with_node at one (record x { place = y.place })) two (record y { place = x.place }) → new ≡ swapped_nodes at one (moved_node x kb.parent kb.name) two (moved_node y ka.parent ka.name)
swapped at new one two ka kb first second x y here here' wrote =
    let at_one = place_same at one x first.0 here first.1 ∙ first.2 in
    let at_two = place_same at two y second.0 here' second.1 ∙ second.2 in
    wrote ∙ (λ i. swapped_nodes at one (record x { place = at_two i }) two (record y { place = at_one i }))

-- a node that existed still exists
alive : (at new : Lookup) (one two : ℕ) (x y : Node) → new ≡ with_node (with_node at one x) two y → (m : ℕ) (z : Node) → at m ≡ Some z → IsAlive new m
alive at new one two x y wrote m z stood =
    let half = alive_written at (with_node at one x) one x refl m z stood in
    alive_written (with_node at one x) new two y wrote m half.0 half.1

pub move_child-requires-clause-there : goal.move_child-requires-clause-there
move_child-requires-clause-there c =
    let first = c.requires.first in
    let second = c.requires.second in
    let ka = c.args.at_one.now in
    let kb = c.args.at_two.now in
    let wrote = swapped (slot_at c.args.store.now.nodes) (slot_at c.swap_places.new.nodes) c.args.one c.args.two ka kb first second first.0 second.0 first.1 second.1 (c.swap_places.ensures.swapped first.0 second.0 first.1 second.1) in
    let there = alive (slot_at c.args.store.now.nodes) (slot_at c.swap_places.new.nodes) c.args.one c.args.two (moved_node first.0 kb.parent kb.name) (moved_node second.0 ka.parent ka.name) wrote c.args.one first.0 first.1 in
    there

pub move_child-requires-clause-above : goal.move_child-requires-clause-above
move_child-requires-clause-above c =
    let first = c.requires.first in
    let second = c.requires.second in
    let ka = c.args.at_one.now in
    let kb = c.args.at_two.now in
    let wrote = swapped (slot_at c.args.store.now.nodes) (slot_at c.swap_places.new.nodes) c.args.one c.args.two ka kb first second first.0 second.0 first.1 second.1 (c.swap_places.ensures.swapped first.0 second.0 first.1 second.1) in
    let there = alive (slot_at c.args.store.now.nodes) (slot_at c.swap_places.new.nodes) c.args.one c.args.two (moved_node first.0 kb.parent kb.name) (moved_node second.0 ka.parent ka.name) wrote kb.parent c.requires.new_above.0 c.requires.new_above.1 in
    there

pub move_child-requires-2-clause-there : goal.move_child-requires-2-clause-there
move_child-requires-2-clause-there c =
    let first = c.requires.first in
    let second = c.requires.second in
    let ka = c.args.at_one.now in
    let kb = c.args.at_two.now in
    let wrote = swapped (slot_at c.args.store.now.nodes) (slot_at c.swap_places.new.nodes) c.args.one c.args.two ka kb first second first.0 second.0 first.1 second.1 (c.swap_places.ensures.swapped first.0 second.0 first.1 second.1) in
    let there = alive (slot_at c.args.store.now.nodes) (slot_at c.swap_places.new.nodes) c.args.one c.args.two (moved_node first.0 kb.parent kb.name) (moved_node second.0 ka.parent ka.name) wrote c.args.two second.0 second.1 in
    (there.0, ap (λ (a : Lookup). a c.args.two) c.move_child.ensures.nodes ∙ there.1)

pub move_child-requires-2-clause-above : goal.move_child-requires-2-clause-above
move_child-requires-2-clause-above c =
    let first = c.requires.first in
    let second = c.requires.second in
    let ka = c.args.at_one.now in
    let kb = c.args.at_two.now in
    let wrote = swapped (slot_at c.args.store.now.nodes) (slot_at c.swap_places.new.nodes) c.args.one c.args.two ka kb first second first.0 second.0 first.1 second.1 (c.swap_places.ensures.swapped first.0 second.0 first.1 second.1) in
    let there = alive (slot_at c.args.store.now.nodes) (slot_at c.swap_places.new.nodes) c.args.one c.args.two (moved_node first.0 kb.parent kb.name) (moved_node second.0 ka.parent ka.name) wrote ka.parent c.requires.above.0 c.requires.above.1 in
    (there.0, ap (λ (a : Lookup). a ka.parent) c.move_child.ensures.nodes ∙ there.1)

pub returns-clause-swapped : goal.returns-clause-swapped
returns-clause-swapped c x y here here' = c.move_child-2.ensures.nodes ∙ (c.move_child.ensures.nodes ∙ swapped (slot_at c.args.store.now.nodes) (slot_at c.swap_places.new.nodes) c.args.one c.args.two c.args.at_one.now c.args.at_two.now c.requires.first c.requires.second x y here here' (c.swap_places.ensures.swapped x y here here'))

pub returns-clause-indexed : goal.returns-clause-indexed
returns-clause-indexed c =
    let at = slot_at c.args.store.now.nodes in
    let new = slot_at c.move_child-2.new.nodes in
    let one = c.args.one in
    let two = c.args.two in
    let ka = c.args.at_one.now in
    let kb = c.args.at_two.now in
    let first = c.requires.first in
    let second = c.requires.second in
    let x = moved_node first.0 kb.parent kb.name in
    let y = moved_node second.0 ka.parent ka.name in
    let wrote : new ≡ swapped_nodes at one x two y = returns-clause-swapped c first.0 second.0 first.1 second.1 in
    IsIndexed-swapped at new one two ka kb c.args.store.now.index c.set.new.map c.set-2.new.map
    (λ j ne ne'. ap (λ (a : Lookup). a j) wrote ∙ swap_other at one two x y c.requires.differ j ne ne')
    c.requires.differ first second
    (x, ap (λ (a : Lookup). a one) wrote ∙ swap_first at one two x y c.requires.differ, refl)
    (y, ap (λ (a : Lookup). a two) wrote ∙ swap_second at one two x y c.requires.differ, refl)
    c.requires.stored.indexed c.set.ensures.set c.set-2.ensures.set

pub returns-clause-related : goal.returns-clause-related
returns-clause-related c =
    let s = c.args.store.now.nodes in
    let at = slot_at s in
    let one = c.args.one in
    let two = c.args.two in
    let ka = c.args.at_one.now in
    let kb = c.args.at_two.now in
    let first = c.requires.first in
    let second = c.requires.second in
    let x = moved_node first.0 kb.parent kb.name in
    let y = moved_node second.0 ka.parent ka.name in
    let parents = parents_in at in
    let half = with_parent parents one (Some kb.parent) in
    let final = c.move_child-2.new.nodes in
    let mid = slot_at c.swap_places.new.nodes in
    let wrote = swapped at mid one two ka kb first second first.0 second.0 first.1 second.1 (c.swap_places.ensures.swapped first.0 second.0 first.1 second.1) in
    let before = related_kept s c.swap_places.new.nodes (alive at mid one two x y wrote) c.swap_places.ensures.links c.requires.stored.related in
    let moved = c.move_child.ensures.lawful parents before (named_child at one ka.parent ka.name first) in
    let both = c.move_child-2.ensures.lawful half moved (if_other one two (Some kb.parent) (parents two) c.requires.differ ∙ named_child at two kb.parent kb.name second) in
    related_as (with_parent half two (Some ka.parent)) final final
    (λ m. parents_with (with_node at one x) (slot_at final) two y (returns-clause-swapped c first.0 second.0 first.1 second.1) m ∙ (λ i. if two == m then Some ka.parent else parents_with at (with_node at one x) one x refl m i))
    refl both
