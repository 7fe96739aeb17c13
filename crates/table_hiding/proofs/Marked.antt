-- Nodes with a hidden mark are at reserved names or are cut, whatever happens to entries, counts and places.
use Rattle.std.proofs.Common.{ℕ, ◌-◌, ◌+◌, ◌≡◌, ◌⊎◌, Bool, true, false, List, [], ◌∷◌, ◌++◌, Option, Some, None, reverse, refl, sym, ap, ◌∙◌, subst, inl, inr}
use Rattle.std.proofs.lemmas.Bool.{cases_eq, true≢false}
use Rattle.std.proofs.lemmas.Option.{none-some, same_Some}
use Rattle.ledger.specs.Periods.{Periods}
use Rattle.paths.specs.Prefixes.{Name, Names}
use Rattle.table_requests.specs.declared.data.Given.{Given}
use Rattle.tree.specs.declared.nodes.Key.{Key}
use Rattle.tree.specs.declared.nodes.Node.{Node}
use Rattle.tree.specs.declared.nodes.Place.TheVariants.{Named, Cut}
use Rattle.tree.specs.Moves.{Changes, IsChanged, Stands, Where, at_path, cut, is_cut, is_moved, stays}
use Rattle.tree.specs.Places.{Lookup, IsCut, IsPathOf, Reaches, with_node}
use Rattle.tree.proofs.LookupLemmas.{cases_option, with_other, with_same}
use Rattle.table_steps.specs.Entries.{Enters, TakesAllBack, TakesBack, TakesNone, newborn}
use Rattle.table_steps.specs.Steps.{EntersAll}
use Rattle.table_steps.specs.Swept.{IsSwept}
use Rattle.table_steps.specs.World.{RequestsInFlight}
use Rattle.table_steps.proofs.Guarding.{reaches_swept}
use Rattle.table_hiding.proofs.Reserved.{IsReservedPath, IsReservedPlace, KeepsReserved}

-- the node has a path that ends in a reserved name
pub record HasReservedPath (at : Lookup) (n : ℕ) : Type 0 where
  pub path : Names
  pub leads : IsPathOf at n path
  pub ends : IsReservedPath path

-- within a call it may be cut
abbrev pub AreMarkedReserved : Lookup → Type 0
AreMarkedReserved at = (n : ℕ) (x : Node) → at n ≡ Some x → x.hidden ≡ true → IsCut at n ⊎ HasReservedPath at n

-- ---- nodes that keep their places

-- each node keeps its place, and each marked node was marked before
pub record KeepsMarked (old new : Lookup) : Type 0 where
  pub place : (n : ℕ) (x : Node) → old n ≡ Some x → (y : Node) × (new n ≡ Some y) × (y.place ≡ x.place)
  pub marked : (n : ℕ) (y : Node) → new n ≡ Some y → y.hidden ≡ true → (x : Node) × (old n ≡ Some x) × (x.hidden ≡ true)

same_marked : (old new : Lookup) → new ≡ old → KeepsMarked old new
same_marked old new same = record {
  place = λ n x here. (x, ap (λ (at : Lookup). at n) same ∙ here, refl);
  marked = λ n y here mark. (y, ap (λ (at : Lookup). at n) (sym same) ∙ here, mark);
}

then_marked : (old mid new : Lookup) → KeepsMarked old mid → KeepsMarked mid new → KeepsMarked old new
then_marked old mid new one two = record {
  place = λ n x here. let a = one.place n x here in let b = two.place n a.0 a.1 in (b.0, b.1, b.2 ∙ a.2);
  marked = λ n y here mark. let b = two.marked n y here mark in one.marked n b.0 b.1 b.2;
}

-- one node is rewritten at its place
pub written_places : (at : Lookup) (n : ℕ) (x y : Node) → at n ≡ Some x → y.place ≡ x.place → (m : ℕ) (z : Node) → at m ≡ Some z → (w : Node) × (with_node at n y m ≡ Some w) × (w.place ≡ z.place)
written_places at n x y stood place m z here = elim (cases_eq n m) [
  | inl e ↦
      let same : x ≡ z = same_Some x z (sym stood ∙ (ap at e ∙ here)) in
      (y, subst (λ k. with_node at n y k ≡ Some y) e (with_same at n y), place ∙ ap (λ (w : Node). w.place) same)
  | inr ne ↦ (z, with_other at n y m ne ∙ here, refl)
]

pub written_marked : (at : Lookup) (n : ℕ) (x y : Node) → at n ≡ Some x → y.place ≡ x.place → y.hidden ≡ x.hidden → KeepsMarked at (with_node at n y)
written_marked at n x y stood place mark = record {
  place = written_places at n x y stood place;
  marked = λ m z here is. elim (cases_eq n m) [
    | inl e ↦
        let same : y ≡ z = same_Some y z (sym (subst (λ k. with_node at n y k ≡ Some y) e (with_same at n y)) ∙ here) in
        (x, ap at (sym e) ∙ stood, sym mark ∙ (ap (λ (w : Node). w.hidden) same ∙ is))
    | inr ne ↦ (z, sym (with_other at n y m ne) ∙ here, is)
  ];
}

born_marked : (at : Lookup) (n : ℕ) (y : Node) → at n ≡ None → y.hidden ≡ false → KeepsMarked at (with_node at n y)
born_marked at n y fresh plain = record {
  place = λ m z here. (z, with_other at n y m (λ e. none-some z (sym fresh ∙ (ap at e ∙ here))) ∙ here, refl);
  marked = λ m z here is. elim (cases_eq n m) [
    | inl e ↦
        let same : y ≡ z = same_Some y z (sym (subst (λ k. with_node at n y k ≡ Some y) e (with_same at n y)) ∙ here) in
        absurd (true≢false (sym is ∙ (ap (λ (w : Node). w.hidden) (sym same) ∙ plain)))
    | inr ne ↦ (z, sym (with_other at n y m ne) ∙ here, is)
  ];
}

entered_marked : (at : Lookup) (ps : Periods) (parent : ℕ) (name : Name) (g : Given) (at' : Lookup) (qs : Periods) → Enters at ps parent name g at' qs → KeepsMarked at at'
entered_marked at ps parent name g at' qs (inl again) = subst (λ (l : Lookup). KeepsMarked at l) (sym again.nodes) (written_marked at g.number again.node (record again.node { count = again.node.count + 1 }) again.here refl refl)
entered_marked at ps parent name g at' qs (inr born) = subst (λ (l : Lookup). KeepsMarked at l) (sym born.nodes) (born_marked at g.number (newborn g parent name) born.fresh refl)

pub entries_marked : (owners : RequestsInFlight) (at at' : Lookup) (ps qs : Periods) (keys : List Key) (found : List Bool) (given : List (Option Given)) → EntersAll owners at ps keys found given at' qs → KeepsMarked at at'
entries_marked owners at at' ps qs (key ∷ keys) (true ∷ found) (Some g ∷ given) (free, (mid, rs, enters, more)) =
    then_marked at mid at' (entered_marked at ps key.parent key.name g mid rs enters) (entries_marked owners mid at' rs qs keys found given more)
entries_marked owners at at' ps qs (key ∷ keys) (true ∷ found) (None ∷ given) (owned, more) = entries_marked owners at at' ps qs keys found given more
entries_marked owners at at' ps qs (key ∷ keys) (false ∷ found) (None ∷ given) more = entries_marked owners at at' ps qs keys found given more
entries_marked owners at at' ps qs [] [] [] same = same_marked at at' same.0
entries_marked owners at at' ps qs keys found given bad = absurd bad

back_marked : (at : Lookup) (ps : Periods) (n : ℕ) (at' : Lookup) (qs : Periods) → TakesBack at ps n at' qs ⊎ TakesNone at ps n at' qs → KeepsMarked at at'
back_marked at ps n at' qs (inl back) = subst (λ (l : Lookup). KeepsMarked at l) (sym back.nodes) (written_marked at n back.node (record back.node { count = back.node.count - 1 }) back.here refl refl)
back_marked at ps n at' qs (inr none) = same_marked at at' none.nodes

pub backs_marked : (at : Lookup) (ps : Periods) (ns : List ℕ) (at' : Lookup) (qs : Periods) → TakesAllBack at ps ns at' qs → KeepsMarked at at'
backs_marked at ps [] at' qs same = same_marked at at' same.0
backs_marked at ps (n ∷ ns) at' qs (mid, rs, one, more) = then_marked at mid at' (back_marked at ps n mid rs one) (backs_marked mid rs ns at' qs more)

-- ---- the result for marked nodes

reaches_places : (old new : Lookup) → ((n : ℕ) (x : Node) → old n ≡ Some x → (y : Node) × (new n ≡ Some y) × (y.place ≡ x.place)) → (n : ℕ) (way : Names) → Reaches old 1 n way → Reaches new 1 n way
reaches_places old new place n [] h = h
reaches_places old new place n (name ∷ way) (p, named, rest) =
    let it = place n named.0 named.1 in
    (p, (it.0, it.1, it.2 ∙ named.2), reaches_places old new place p way rest)

pub stands_places : (old new : Lookup) → ((n : ℕ) (x : Node) → old n ≡ Some x → (y : Node) × (new n ≡ Some y) × (y.place ≡ x.place)) → (n : ℕ) → IsCut old n ⊎ HasReservedPath old n → IsCut new n ⊎ HasReservedPath new n
stands_places old new place n (inl lost) = let it = place n lost.0 lost.1 in inl (it.0, it.1, it.2 ∙ lost.2)
stands_places old new place n (inr it) = inr (record { path = it.path; leads = reaches_places old new place n (reverse it.path) it.leads; ends = it.ends })

pub reserved_kept : (old new : Lookup) → KeepsMarked old new → AreMarkedReserved old → AreMarkedReserved new
reserved_kept old new keeps safe n y here mark =
    let was = keeps.marked n y here mark in
    stands_places old new keeps.place n (safe n was.0 was.1 was.2)

-- a sweep keeps the nodes above those that remain
pub reserved_swept : (kept : ℕ → Bool) (old new : Lookup) → IsSwept kept old new → AreMarkedReserved old → AreMarkedReserved new
reserved_swept kept old new swept safe n y here mark = elim (safe n y (swept.kept n y here) mark) [
  | inl lost ↦ inl (y, here, ap (λ (w : Node). w.place) (same_Some y lost.0 (sym (swept.kept n y here) ∙ lost.1)) ∙ lost.2)
  | inr it ↦ inr (record { path = it.path; leads = reaches_swept kept old new swept n (reverse it.path) (λ x was none. none-some y (sym none ∙ here)) it.leads; ends = it.ends })
]

-- ---- changes of place

was_marked : (x y : Node) → IsChanged x y → y.hidden ≡ true → x.hidden ≡ true
was_marked x y (stays e) mark = ap (λ (w : Node). w.hidden) (sym e) ∙ mark
was_marked x y (is_moved p name e) mark = ap (λ (w : Node). w.hidden) (sym e) ∙ mark
was_marked x y (is_cut e) mark = absurd (true≢false (sym mark ∙ ap (λ (w : Node). w.hidden) e))

pub stands_reserved : (at : Lookup) (n : ℕ) (w : Where) → IsReservedPlace w → Stands at n w → IsCut at n ⊎ HasReservedPath at n
stands_reserved at n (at_path path) ends leads = inr (record { path = path; leads = leads; ends = ends })
stands_reserved at n cut ends lost = inl lost

pub reserved_changed : (f : Where → Where) (old new : Lookup) → f cut ≡ cut → KeepsReserved f → Changes f old new → AreMarkedReserved old → AreMarkedReserved new
reserved_changed f old new fixed keeps changes safe n y here mark = elim (cases_option (old n)) [
  | inl none ↦ absurd (none-some y (sym (changes.none_comes n none) ∙ here))
  | inr (x, stood) ↦
      let it = changes.kept n x stood in
      let same : it.0 ≡ y = same_Some it.0 y (sym it.1 ∙ here) in
      let was = was_marked x it.0 it.2 (ap (λ (w : Node). w.hidden) same ∙ mark) in
      elim (safe n x stood was) [
        | inl lost ↦ inl (subst (λ (w : Where). Stands new n w) fixed (changes.moved n cut lost))
        | inr path ↦ stands_reserved new n (f (at_path path.path)) (keeps path.path path.ends) (changes.moved n (at_path path.path) path.leads)
      ]
]
