use Rattle.std.proofs.Common.{ℕ, ◌≡◌, ◌<◌, ◌≤◌, ◌+◌, ◌++◌, false, Bool, List, [], ◌∷◌, Option, append-nil, append_assoc, get_or, length, length-append, take, arith, sym, ap, ◌∙◌, subst, refl}
use Rattle.std.proofs.lemmas.List.{take_all}
use Rattle.std.specs.Vec.Iter.{into_iter_items, into_iter_len}
use Rattle.table_requests.specs.declared.data.RequestInFlight.{RequestInFlight as Recorded}
use Rattle.table_requests.specs.declared.data.Given.{Given}
use Rattle.table_requests.specs.Roomy.{Listed}
use Rattle.paths.specs.Prefixes.{Name}
use Rattle.tree.specs.declared.nodes.Key.{Key}
use Rattle.tree.specs.Places.{IsPathOf, at_in}
use Rattle.table_footprints.specs.Footprints.{page_keys}
use Rattle.table_steps.specs.Ending.{GivesAll, MayEnter, MayFill}
use Rattle.table_steps.specs.Kept.{flight_of, world_of}
use Rattle.table_steps.proofs.Filling.{found_more, gives_push, keys_push, may_first, next_copy, seen_here, seen_idle}
use Rattle.table_steps.proofs.state.State.give_page.Goals as goal

nothing_left : {X : Type 0} → (xs : List X) → length xs ≡ 0 → xs ≡ []
nothing_left [] none = refl
nothing_left (x ∷ xs) none = absurd (omega (arith, none))

pub give_found-entered-requires-clause-may : goal.give_found-entered-requires-clause-may
give_found-entered-requires-clause-may c =
    let s = c.loop-name.self in
    let folder = c.args.page.folder in
    let rest = into_iter_items c.next.new.self in
    let fill : MayFill s c.args.id (page_keys folder (c.in-Some.name ∷ rest)) = subst (λ (ns : List Name). MayFill s c.args.id (page_keys folder ns)) c.in-Some.ensures.steps.0 c.loop-name.invariant.may in
    subst (λ (k : Key). MayEnter s c.args.id (k ∷ [])) (sym c.new-keys.ensures)
    (may_first s c.args.id (record { parent = folder; name = c.in-Some.name }) (page_keys folder rest) fill)

pub loop-name-preserved : goal.loop-name-preserved
loop-name-preserved c =
    let o = c.args.self.now in
    let s = c.loop-name.self in
    let new = c.give_found-entered.new.self in
    let id = c.args.id in
    let folder = c.args.page.folder in
    let name = c.in-Some.name in
    let key : Key = record { parent = folder; name = name } in
    let rest = into_iter_items c.next.new.self in
    let yielded = c.loop-name.yielded in
    let i = c.loop-name.i in
    let found = c.args.found.now in
    let given = c.loop-name.given in
    let g = c.give_found-entered.result in
    let inv = c.loop-name.invariant in
    let steps : into_iter_items c.loop-name.name-iterator ≡ name ∷ rest = c.in-Some.ensures.steps.0 in
    let gone = c.in-Some.ensures.steps.1 in
    let key_is : c.new-keys.result.key ≡ key = c.new-keys.ensures in
    let long : length (name ∷ rest) ≡ into_iter_len c.loop-name.name-iterator = ap {B = ℕ} length (sym steps) ∙ inv.left in
    let copy = next_copy c.loop-name.copies c.next-copy.new.self c.next-copy.result name rest (inv.copies ∙ steps) (long ∙ sym inv.same) c.next-copy.ensures.cases in
    let all : length c.args.page.names ≡ length yielded + length (name ∷ rest) = ap {B = ℕ} length inv.names ∙ (length-append yielded (into_iter_items c.loop-name.name-iterator) ∙ ap (λ (ns : List Name). length yielded + length ns) steps) in
    let within : i < length found = omega (arith, all, inv.count, c.requires.fits) in
    let fill : MayFill s id (key ∷ page_keys folder rest) = subst (λ (ns : List Name). MayFill s id (page_keys folder ns)) steps inv.may in
    let more : (ks : List Key) → MayFill s id (key ∷ ks) → MayFill new id ks = subst (λ (k : Key). (ks : List Key) → MayFill s id (k ∷ ks) → MayFill new id ks) key_is c.give_found-entered.ensures.more in
    let now : Recorded = fill.flight in
    let b : Bool = get_or found i false in
    let gives : GivesAll (world_of s) id (flight_of now) (key ∷ []) (b ∷ []) (g ∷ []) (world_of new) =
    subst (λ (k : Key). GivesAll (world_of s) id (flight_of now) (k ∷ []) (b ∷ []) (g ∷ []) (world_of new)) key_is (c.give_found-entered.ensures.gives now fill.here) in
    let items : c.add.new.self.items ≡ given.items ++ g ∷ [] = ap (λ (l : Listed). l.items) c.add.ensures in
    record {
      names = inv.names ∙ (ap (λ (ns : List Name). yielded ++ ns) steps ∙ sym (append_assoc yielded (name ∷ []) rest));
      copies = copy.0;
      left = omega (arith, long, gone);
      same = omega (arith, copy.1, gone, inv.same);
      count = omega (arith, inv.count, length-append yielded (name ∷ []));
      kept = c.give_found-entered.ensures.kept;
      may = more (page_keys folder rest) fill;
      leads = subst (λ (k : Key). IsPathOf (at_in new.tree) k.parent c.args.folder.now) key_is c.give_found-entered.ensures.leads;
      gives = λ f here.
          subst (λ (ks : List Key). GivesAll (world_of o) id (flight_of f) ks (take (i + 1) found) c.add.new.self.items (world_of new)) (sym (keys_push folder yielded name))
          (subst (λ (bs : List Bool). GivesAll (world_of o) id (flight_of f) (page_keys folder yielded ++ key ∷ []) bs c.add.new.self.items (world_of new)) (sym (found_more found i within))
          (subst (λ (gs : List (Option Given)). GivesAll (world_of o) id (flight_of f) (page_keys folder yielded ++ key ∷ []) (take i found ++ b ∷ []) gs (world_of new)) (sym items)
          (gives_push (world_of o) (world_of s) (world_of new) id (flight_of f) (flight_of now) (page_keys folder yielded) (take i found) given.items key b g
          (seen_here o id c.requires.may.flight c.requires.may.here c.requires.may.answered f here) (seen_idle o id c.requires.may.flight c.requires.may.here c.requires.may.answered f here)
          (seen_here s id now fill.here fill.answered now fill.here) (inv.gives f here) gives)));
      room = omega (arith, inv.room, ap {B = ℕ} length steps, ap (λ (l : Listed). l.room) c.add.ensures);
    }

pub returns-clause-gives : goal.returns-clause-gives
returns-clause-gives c f here =
    let o = c.args.self.now in
    let new = c.loop-name.self in
    let folder = c.args.page.folder in
    let found = c.args.found.now in
    let inv = c.loop-name.invariant in
    let given = c.loop-name.given.items in
    let none = c.in-None.ensures.steps.0 in
    let empty : into_iter_items c.loop-name.name-iterator ≡ [] = nothing_left (into_iter_items c.loop-name.name-iterator) (inv.left ∙ none) in
    let all : c.args.page.names ≡ c.loop-name.yielded = inv.names ∙ (ap (λ (ns : List Name). c.loop-name.yielded ++ ns) empty ∙ append-nil c.loop-name.yielded) in
    let whole : length found ≤ c.loop-name.i = omega (arith, ap {B = ℕ} length all, inv.count, c.requires.fits) in
    subst (λ (bs : List Bool). GivesAll (world_of o) c.args.id (flight_of f) (page_keys folder c.args.page.names) bs given (world_of new)) (take_all c.loop-name.i found whole)
    (subst (λ (ns : List Name). GivesAll (world_of o) c.args.id (flight_of f) (page_keys folder ns) (take c.loop-name.i found) given (world_of new)) (sym all) (inv.gives f here))
