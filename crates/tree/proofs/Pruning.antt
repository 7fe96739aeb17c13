-- A cut leaf by leaf: nodes without children are cut first, and in the end the node itself.
use Rattle.std.proofs.Common.{ℕ, ◌≡◌, [], ◌∷◌, Some, refl, sym, ap, ◌∙◌, subst, ◌⊎◌, inl, inr}
use Rattle.std.proofs.lemmas.Bool.{cases_eq}
use Rattle.std.proofs.lemmas.Option.{same_Some}
use Rattle.paths.specs.Prefixes.{Name, Names}
use Rattle.tree.specs.declared.nodes.Node.{Node}
use Rattle.tree.specs.declared.nodes.Place.TheVariants.{Root, Named, Cut}
use Rattle.tree.specs.Places.{Lookup, with_node, IsNamed, Reaches, Climbs, IsBelow, HasChild, IsTree}
use Rattle.tree.specs.Moves.{cut_node, CutsBelow}
use Rattle.tree.proofs.LookupLemmas.{with_other, with_same}
use Rattle.tree.proofs.Climbing.{cut_unnamed, named_same, place_same}
use Rattle.tree.proofs.Cutting.{WasCut, IsTree-cut}

-- some of the nodes at n or below are cut, and the rest is a tree
pub record IsPruned (old now : Lookup) (n : ℕ) : Type 0 where
  pub tree : IsTree now
  pub each : (m : ℕ) → (now m ≡ old m) ⊎ (IsBelow old n m × WasCut old now m)

-- nothing is below a node without children
below_leaf : (at : Lookup) (m : ℕ) → (HasChild at m → ⊥) → (names : Names) (j : ℕ) → Reaches at m j names → j ≡ m
below_leaf at m leaf [] j h = h
below_leaf at m leaf (name ∷ names) j h = absurd (leaf (j, name, subst (λ p. IsNamed at j p name) (below_leaf at m leaf names h.0 h.2) h.1))

pub leaf_cut : (at : Lookup) (m : ℕ) (x : Node) → at m ≡ Some x → (HasChild at m → ⊥) → CutsBelow at (with_node at m (cut_node x)) m
leaf_cut at m x stood leaf = record {
  each = λ j. elim (cases_eq m j) [
    | inl e ↦ inr (record { names = []; climb = sym e }, (x, ap at (sym e) ∙ stood, subst (λ k. with_node at m (cut_node x) k ≡ Some (cut_node x)) e (with_same at m (cut_node x))))
    | inr ne ↦ inl (with_other at m (cut_node x) j ne)
  ];
  all = λ j below y here.
      let e : j ≡ m = below_leaf at m leaf below.names j below.climb in
      let same : x ≡ y = same_Some x y (sym stood ∙ (ap at (sym e) ∙ here)) in
      subst (λ k. with_node at m (cut_node x) k ≡ Some (cut_node x)) (sym e) (with_same at m (cut_node x)) ∙ ap (λ (z : Node). Some (cut_node z)) same;
}

-- a named node without children is cut
pub IsPruned-step : (old now : Lookup) (n m : ℕ) (x : Node) → (m ≡ 1 → ⊥) → now m ≡ Some x → (x.place ≡ Cut → ⊥) → (HasChild now m → ⊥) → IsBelow old n m → IsPruned old now n → IsPruned old (with_node now m (cut_node x)) n
IsPruned-step old now n m x not_root stood whole leaf below p = record {
  tree = IsTree-cut now p.tree m not_root (with_node now m (cut_node x)) (leaf_cut now m x stood leaf);
  each = λ j. elim (cases_eq m j) [
    | inl e ↦ elim (p.each m) [
      | inl same ↦ inr (subst (λ k. IsBelow old n k) e below, (x, ap old (sym e) ∙ (sym same ∙ stood), subst (λ k. with_node now m (cut_node x) k ≡ Some (cut_node x)) e (with_same now m (cut_node x))))
      | inr changed ↦ absurd (whole (place_same now m x (cut_node changed.1.0) stood changed.1.2))
    ]
    | inr ne ↦ elim (p.each j) [
      | inl same ↦ inl (with_other now m (cut_node x) j ne ∙ same)
      | inr changed ↦ inr (changed.0, (changed.1.0, changed.1.1, with_other now m (cut_node x) j ne ∙ changed.1.2))
    ]
  ];
}

-- once the node itself is cut, everything below it is
module _ (old now : Lookup) (n : ℕ) (stood : Node) (alive : old n ≡ Some stood) (whole : stood.place ≡ Cut → ⊥) (gone : now n ≡ Some (cut_node stood)) (p : IsPruned old now n) where
  reached : (names : Names) (m : ℕ) → Reaches old n m names → (x : Node) × (old m ≡ Some x)
  reached [] m h = (stood, ap old h ∙ alive)
  reached (name ∷ names) m h = (h.1.0, h.1.1)

  lost_climb : (m : ℕ) (x : Node) → now m ≡ Some (cut_node x) → (up : Names) → Climbs now m up → ⊥
  lost_climb m x cut_here [] h =
      let r = p.tree.rooted in
      let bad : Cut ≡ Root = place_same now m (cut_node x) r.node cut_here (ap now h ∙ r.here) ∙ r.root in cc
  lost_climb m x cut_here (name ∷ up) h = cut_unnamed now m (cut_node x) cut_here refl h.0 name h.1

  under_lost : (m q : ℕ) (name : Name) (y : Node) → IsNamed now m q name → now q ≡ Some (cut_node y) → (up : Names) → Climbs now m up → (m ≡ 1 → ⊥) → ⊥
  under_lost m q name y named lost [] h not_root = not_root h
  under_lost m q name y named lost (z ∷ up) h not_root =
      let same = named_same now m q h.0 name z named h.1 in
      lost_climb q y lost up (subst (λ k. Climbs now k up) (sym same.0) h.2)

  all_cut : (names : Names) (m : ℕ) → Reaches old n m names → (x : Node) → old m ≡ Some x → now m ≡ Some (cut_node x)
  all_cut [] m h x here = ap now h ∙ (gone ∙ ap (λ (z : Node). Some (cut_node z)) (same_Some stood x (sym alive ∙ (ap old (sym h) ∙ here))))
  all_cut (name ∷ names) m h x here =
      let parent = reached names h.0 h.2 in
      let lost = all_cut names h.0 h.2 parent.0 parent.1 in
      elim (p.each m) [
        | inl same ↦
            let named : IsNamed now m h.0 name = (h.1.0, same ∙ h.1.1, h.1.2) in
            let lead = p.tree.reached m h.0 name named in
            let r = p.tree.rooted in
            let not_root : m ≡ 1 → ⊥ = λ e. let bad : Named (record { parent = h.0; name = name }) ≡ Root = sym named.2 ∙ (place_same now m named.0 r.node named.1 (ap now e ∙ r.here) ∙ r.root) in cc in
            absurd (under_lost m h.0 name parent.0 named lost lead.names lead.climb not_root)
        | inr changed ↦ changed.1.2 ∙ ap (λ (z : Node). Some (cut_node z)) (same_Some changed.1.0 x (sym changed.1.1 ∙ here))
      ]

  pub CutsBelow-pruned : CutsBelow old now n
  CutsBelow-pruned = record {
    each = p.each;
    all = λ m below x here. all_cut below.names m below.climb x here;
  }
