use Rattle.std.proofs.Common.{◌≡◌, ◌≤◌, ◌<◌, ◌+◌, ℕ, List, Option, Some, ◌∷◌, ◌++◌, [], length, map, ap, refl, subst, sym, ◌∙◌, arith, rules}
use Rattle.std.specs.Prelude.{option_map, unwrap_or}
use Rattle.std.proofs.lemmas.List.{length-append, length-map, map_push}
use Rattle.std.proofs.lemmas.Option.{same_Some}
use Rattle.tree.specs.declared.nodes.Node.{Node}
use Rattle.ledger.specs.Periods.{Periods}
use Rattle.ledger.specs.Postings.{Postings}
use Rattle.ledger.specs.declared.postings.Posting.{Posting}
use Rattle.ledger.specs.declared.postings.Posting.TheVariants.{Opening}
use Rattle.tree.specs.Places.{at_in}
use Rattle.table_steps.specs.Living.{AreLivingUpTo, life_of, opening_at}
use Rattle.table_steps.proofs.ListingLiving.{living_all, up_to_next, up_to_root}
use Rattle.table_steps.proofs.NextPeriod.{up_to_count}
use Rattle.table_steps.proofs.periods.open_living.Goals as goal

-- the nodes so far, and the next one
module _ (c : goal.After-open) where
  abbrev so_far : List Posting
  so_far = c.loop-alive.next.made.last

  abbrev one : Posting
  one = Opening c.in-Some.alive c.node_at-node.result.now.generation c.node_at-node.result.now.count

  last_is : c.open.new.self.made.last ≡ so_far ++ one ∷ []
  last_is = ap (λ (ps : Periods). ps.last) c.open.ensures.made

  lives_are : map life_of c.open.new.self.made.last ≡ map life_of so_far ++ (c.in-Some.alive, c.node_at-node.result.now.generation) ∷ []
  lives_are = ap (map life_of) last_is ∙ map_push life_of so_far one

  opening_is : opening_at (at_in c.args.tree.now) (c.in-Some.alive, c.node_at-node.result.now.generation) ≡ one
  opening_is = ap (λ (o : Option Node). Opening c.in-Some.alive c.node_at-node.result.now.generation (unwrap_or (option_map (λ (x : Node). x.count) o) 0)) c.node_at-node.ensures

  openings_are : map (opening_at (at_in c.args.tree.now)) (map life_of c.open.new.self.made.last) ≡ so_far ++ one ∷ []
  openings_are =
      let at = at_in c.args.tree.now in
      ap (map (opening_at at)) lives_are ∙ (map_push (opening_at at) (map life_of so_far) (c.in-Some.alive, c.node_at-node.result.now.generation)
      ∙ (ap (λ (ps : List Posting). ps ++ opening_at at (c.in-Some.alive, c.node_at-node.result.now.generation) ∷ []) (sym c.loop-alive.invariant.opened) ∙ ap (λ (p : Posting). so_far ++ p ∷ []) opening_is))

pub open-requires : goal.open-requires
open-requires c =
    let at = at_in c.args.tree.now in
    let pairs = map life_of c.loop-alive.next.made.last in
    let g = c.node_at-node.result.now.generation in
    let life : (x : Node) → at c.in-Some.alive ≡ Some x → g ≡ x.generation = λ x here. ap (λ (y : Node). y.generation) (same_Some c.node_at-node.result.now x (sym c.node_at-node.ensures ∙ here)) in
    let more = up_to_next at c.loop-alive.number c.in-Some.alive g pairs c.loop-alive.invariant.first c.in-Some.ensures.some life c.loop-alive.invariant.listed in
    let count = up_to_count at c.in-Some.alive (pairs ++ (c.in-Some.alive, g) ∷ []) more c.requires.root c.args.tree.now.living c.args.tree.now.counts c.len-nodes.ensures.census in
    omega (arith, count, length-append pairs ((c.in-Some.alive, g) ∷ []), length-map c.loop-alive.next.made.last life_of, c.loop-alive.invariant.room, c.requires.room)

pub loop-alive-preserved : goal.loop-alive-preserved
loop-alive-preserved c =
    let at = at_in c.args.tree.now in
    let pairs = map life_of c.loop-alive.next.made.last in
    let g = c.node_at-node.result.now.generation in
    let life : (x : Node) → at c.in-Some.alive ≡ Some x → g ≡ x.generation = λ x here. ap (λ (y : Node). y.generation) (same_Some c.node_at-node.result.now x (sym c.node_at-node.ensures ∙ here)) in
    let next = c.in-Some.ensures.some in
    let longer = length-append (so_far c) (one c ∷ []) in
    let len = ap (λ (ps : List Posting). length ps) (last_is c) in
    record {
      listed = subst (λ (l : List (ℕ × ℕ)). AreLivingUpTo at c.in-Some.alive l) (sym (lives_are c)) (up_to_next at c.loop-alive.number c.in-Some.alive g pairs c.loop-alive.invariant.first next life c.loop-alive.invariant.listed);
      opened = last_is c ∙ sym (openings_are c);
      closed = search rules;
      room = omega (arith, c.open.ensures.room, len, longer, c.loop-alive.invariant.room);
      rest = search rules;
      first = omega (arith, c.loop-alive.invariant.first, next.above);
    }

pub returns-clause-living : goal.returns-clause-living
returns-clause-living c = living_all (at_in c.args.tree.now) c.loop-alive.number (map life_of c.loop-alive.next.made.last) c.after.ensures.positive c.in_default.ensures.none c.loop-alive.invariant.listed
