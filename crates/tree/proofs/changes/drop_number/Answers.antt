use Rattle.std.proofs.Common.{◌≡◌, Some, true, rules, is_some, sym, ap, ◌∙◌, subst, arith}
use Rattle.std.proofs.lemmas.Option.{none-some}
use Rattle.slab.specs.Slab.{get}
use Rattle.tree.specs.declared.nodes.Node.{Node}
use Rattle.tree.specs.declared.nodes.Place.TheVariants.{Cut}
use Rattle.tree.specs.Children.{parents_in, place_parent}
use Rattle.tree.specs.Places.{Lookup, IsTree}
use Rattle.tree.specs.Stored.{slot_at}
use Rattle.tree.proofs.Dropping.{IsTree-drop}
use Rattle.tree.proofs.LookupLemmas.{without_none, without_other, without_same}
use Rattle.tree.proofs.Relating.{alive_written, parent_here, related_kept}
use Rattle.tree.proofs.Removing.{gone_at, gone_related}
use Rattle.tree.proofs.Slots.{counts_gone, has_key, key_alive, key_dead, slot_none, slot_of}
use Rattle.tree.proofs.Storing.{place_found, unplaced}
use Rattle.tree.proofs.changes.drop_number.Goals as goal

pub returns-in_default-clause-gone : goal.returns-in_default-clause-gone
returns-in_default-clause-gone c = without_none (slot_at c.args.store.now.nodes) c.args.number (slot_none c.args.store.now.nodes c.args.number c.in_default.ensures.none)

pub returns-in_default-clause-some : goal.returns-in_default-clause-some
returns-in_default-clause-some c x stood = absurd (none-some x (sym (slot_none c.args.store.now.nodes c.args.number c.in_default.ensures.none) ∙ stood))

pub returns-else-contains-clause-gone : goal.returns-else-contains-clause-gone
returns-else-contains-clause-gone c =
    let s = c.args.store.now.nodes in
    let k = c.in-Some.key in
    let none : is_some (get s k) ≡ true → ⊥ = λ h. search rules in
    without_none (slot_at s) c.args.number (slot_of s c.args.number k c.in-Some.ensures.some ∙ key_dead (get s k) none)

pub replace_place-was-requires : goal.replace_place-was-requires
replace_place-was-requires c =
    let s = c.args.store.now.nodes in
    let n = c.args.number in
    let k = c.in-Some.key in
    let e = c.in-Some.ensures.some in
    let there : is_some (get s k) ≡ true = search rules in
    let h = key_alive (get s k) there in
    let stood : slot_at s n ≡ Some h.0 = slot_of s n k e ∙ h.1 in
    (h.0, stood)

pub forget_place-requires-clause-there : goal.forget_place-requires-clause-there
forget_place-requires-clause-there c key is =
    let s = c.args.store.now.nodes in
    let n = c.args.number in
    let k = c.in-Some.key in
    let e = c.in-Some.ensures.some in
    let there : is_some (get s k) ≡ true = search rules in
    let h = key_alive (get s k) there in
    let stood : slot_at s n ≡ Some h.0 = slot_of s n k e ∙ h.1 in
    place_found (slot_at s) c.args.store.now.index n h.0 c.requires.stored.indexed stood key (sym (c.replace_place-was.ensures.was h.0 stood) ∙ is)

pub forget_place-requires-clause-alive : goal.forget_place-requires-clause-alive
forget_place-requires-clause-alive c =
    let s = c.args.store.now.nodes in
    let n = c.args.number in
    let k = c.in-Some.key in
    let e = c.in-Some.ensures.some in
    let there : is_some (get s k) ≡ true = search rules in
    let h = key_alive (get s k) there in
    let stood : slot_at s n ≡ Some h.0 = slot_of s n k e ∙ h.1 in
    alive_written (slot_at s) (slot_at c.replace_place-was.new.nodes) n (record h.0 { place = Cut }) (c.replace_place-was.ensures.wrote h.0 stood) n h.0 stood

pub remove-requires : goal.remove-requires
remove-requires c =
    let s = c.args.store.now.nodes in
    let n = c.args.number in
    let k = c.in-Some.key in
    let e = c.in-Some.ensures.some in
    let there : is_some (get s k) ≡ true = search rules in
    let h = key_alive (get s k) there in
    let stood : slot_at s n ≡ Some h.0 = slot_of s n k e ∙ h.1 in
    let y : Node = record h.0 { place = Cut } in
    let cut = c.forget_place.ensures.nodes ∙ c.replace_place-was.ensures.wrote h.0 stood in
    let here = alive_written (slot_at s) (slot_at c.forget_place.new.store.nodes) n y cut n h.0 stood in
    has_key (get c.forget_place.new.store.nodes k) here.0 (sym (slot_of c.forget_place.new.store.nodes n k e) ∙ here.1)

pub returns-then-contains-clause-gone : goal.returns-then-contains-clause-gone
returns-then-contains-clause-gone c =
    let s = c.args.store.now.nodes in
    let n = c.args.number in
    let k = c.in-Some.key in
    let e = c.in-Some.ensures.some in
    let there : is_some (get s k) ≡ true = search rules in
    let h = key_alive (get s k) there in
    let stood : slot_at s n ≡ Some h.0 = slot_of s n k e ∙ h.1 in
    let y : Node = record h.0 { place = Cut } in
    let cut = c.forget_place.ensures.nodes ∙ c.replace_place-was.ensures.wrote h.0 stood in
    gone_at (slot_at s) c.forget_place.new.store.nodes c.remove.new.self n k y e cut c.remove.ensures.updates

pub returns-then-contains-clause-stored : goal.returns-then-contains-clause-stored
returns-then-contains-clause-stored c =
    let s = c.args.store.now.nodes in
    let n = c.args.number in
    let k = c.in-Some.key in
    let e = c.in-Some.ensures.some in
    let there : is_some (get s k) ≡ true = search rules in
    let h = key_alive (get s k) there in
    let stood : slot_at s n ≡ Some h.0 = slot_of s n k e ∙ h.1 in
    let y : Node = record h.0 { place = Cut } in
    let cut = c.forget_place.ensures.nodes ∙ c.replace_place-was.ensures.wrote h.0 stood in
    let at = slot_at s in
    let final = c.remove.new.self in
    let gone = gone_at at c.forget_place.new.store.nodes final n k y e cut c.remove.ensures.updates in
    let was = c.replace_place-was.ensures.was h.0 stood in
    let before = related_kept s c.replace_place-was.new.nodes (alive_written at (slot_at c.replace_place-was.new.nodes) n y (c.replace_place-was.ensures.wrote h.0 stood)) c.replace_place-was.ensures.links c.requires.stored.related in
    let left = c.forget_place.ensures.lawful (parents_in at) before (parent_here at n h.0 stood ∙ ap place_parent (sym was)) in
    record {
      tree = subst IsTree (sym gone) (IsTree-drop at n c.requires.stored.tree c.requires.not_root c.requires.childless);
      indexed = unplaced at (slot_at final) n c.args.store.now.index c.forget_place.new.store.index
          (λ j ne. ap (λ (a : Lookup). a j) gone ∙ without_other at n j ne)
          (λ p name it. none-some it.0 (sym (ap (λ (a : Lookup). a n) gone ∙ without_same at n) ∙ it.1))
          h.0 stood c.requires.stored.indexed
          (λ key is. c.forget_place.ensures.taken key (was ∙ is))
          (λ bad. c.forget_place.ensures.same (λ key is. bad key (sym was ∙ is)));
      related = gone_related at c.forget_place.new.store.nodes final n k y e cut c.remove.ensures.updates c.requires.childless left;
      counted = c.forget_place.ensures.counted;
    }

pub returns-then-contains-clause-some : goal.returns-then-contains-clause-some
returns-then-contains-clause-some c x here = (
  omega (arith, c.remove.ensures.len, c.forget_place.ensures.len, c.replace_place-was.ensures.len),
  counts_gone c.args.store.now.nodes c.remove.new.self c.requires.stored.tree.numbered (returns-then-contains-clause-stored c).tree.numbered c.args.number x here (returns-then-contains-clause-gone c),
)
