-- What an exchange of two nodes does to the index, to the children, and to the sum of the counts.
use Rattle.std.proofs.Common.{ℕ, ◌≡◌, if◌then◌else◌, true, false, Option, Some, sym, ap, ◌∙◌, subst, inl, inr, arith}
use Rattle.std.proofs.lemmas.Bool.{cases_Bool, cases_eq, cond-false, cond-true}
use Rattle.std.proofs.lemmas.Bool.Decides.{nat_tests}
use Rattle.std.proofs.lemmas.Option.{same_Some}
use mathlib.Core.Path.{fun_ext}
use Rattle.indexmap.specs.IndexMap.{IndexMap}
use Rattle.collections.specs.Living.{found}
use Rattle.tree.specs.declared.nodes.Key.{Key}
use Rattle.tree.specs.declared.nodes.Node.{Node}
use Rattle.tree.specs.Keys.{same_key}
use Rattle.tree.specs.Places.{Lookup, with_node, IsNamed}
use Rattle.tree.specs.Stored.{IsIndexed}
use Rattle.tree.proofs.Climbing.{named_same}
use Rattle.tree.proofs.Indexing.{key_same, same_self}
use Rattle.tree.proofs.Exchanging.{swapped_nodes}

-- writing the first of two nodes twice
pub with_around : (at : Lookup) (n k : ℕ) (x y z : Node) → (n ≡ k → ⊥) → with_node (with_node (with_node at n x) k y) n z ≡ swapped_nodes at n z k y
with_around at n k x y z ne = fun_ext (λ m. grind (arith, nat_tests))

module _ {S : Type 0} (old new : Lookup) (a b : ℕ) (ka kb : Key) (m m' m'' : IndexMap Key (Option ℕ) S) (others : (j : ℕ) → (a ≡ j → ⊥) → (b ≡ j → ⊥) → new j ≡ old j) (differ : a ≡ b → ⊥)
    (one : IsNamed old a ka.parent ka.name) (two : IsNamed old b kb.parent kb.name) (one_now : IsNamed new a kb.parent kb.name) (two_now : IsNamed new b ka.parent ka.name) (indexed : IsIndexed old m)
    (first : (q : Key) → found same_key m' q ≡ (if same_key ka q then Some b else found same_key m q)) (second : (q : Key) → found same_key m'' q ≡ (if same_key kb q then Some a else found same_key m' q)) where
  at_kb : (q : Key) → same_key kb q ≡ true → found same_key m'' q ≡ Some a
  at_kb q hit = second q ∙ cond-true (same_key kb q) (Some a) (found same_key m' q) hit

  at_ka : (q : Key) → same_key kb q ≡ false → same_key ka q ≡ true → found same_key m'' q ≡ Some b
  at_ka q miss hit = second q ∙ (cond-false (same_key kb q) (Some a) (found same_key m' q) miss ∙ (first q ∙ cond-true (same_key ka q) (Some b) (found same_key m q) hit))

  at_else : (q : Key) → same_key kb q ≡ false → same_key ka q ≡ false → found same_key m'' q ≡ found same_key m q
  at_else q miss miss' = second q ∙ (cond-false (same_key kb q) (Some a) (found same_key m' q) miss ∙ (first q ∙ cond-false (same_key ka q) (Some b) (found same_key m q) miss'))

  -- a node with this name has this key
  key_of_named : (at : Lookup) (n : ℕ) (k q : Key) → IsNamed at n k.parent k.name → IsNamed at n q.parent q.name → k ≡ q
  key_of_named at n k q h h' = let e = named_same at n k.parent q.parent k.name q.name h h' in λ i. record { parent = e.0 i; name = e.1 i }

  is_other : (n j : ℕ) (k q : Key) → IsNamed old n k.parent k.name → IsNamed old j q.parent q.name → same_key k q ≡ false → n ≡ j → ⊥
  is_other n j k q h h' miss e =
      let same = key_of_named old n k q h (subst (λ i. IsNamed old i q.parent q.name) (sym e) h') in
      let bad : true ≡ false = sym (subst (λ (r : Key). same_key k r ≡ true) same (same_self k)) ∙ miss in cc

  -- the node found at another node's key is that other node
  is_same_at : (n j : ℕ) (k q : Key) → IsNamed old n k.parent k.name → IsNamed old j q.parent q.name → same_key k q ≡ true → n ≡ j
  is_same_at n j k q h h' hit =
      same_Some n j (sym (indexed.whole q n (subst (λ (r : Key). IsNamed old n r.parent r.name) (key_same k q hit) h)) ∙ indexed.whole q j h')

  keys_differ : same_key kb ka ≡ false
  keys_differ = elim (cases_Bool (same_key kb ka)) [
    | inl hit ↦ absurd (differ (sym (is_same_at b a kb ka two one hit)))
    | inr miss ↦ miss
  ]

  sound : (q : Key) (j : ℕ) → found same_key m'' q ≡ Some j → IsNamed new j q.parent q.name
  sound q j h = elim (cases_Bool (same_key kb q)) [
    | inl hit ↦
        let e : a ≡ j = same_Some a j (sym (at_kb q hit) ∙ h) in
        subst (λ i. IsNamed new i q.parent q.name) e (subst (λ (r : Key). IsNamed new a r.parent r.name) (key_same kb q hit) one_now)
    | inr miss ↦ elim (cases_Bool (same_key ka q)) [
      | inl hit ↦
          let e : b ≡ j = same_Some b j (sym (at_ka q miss hit) ∙ h) in
          subst (λ i. IsNamed new i q.parent q.name) e (subst (λ (r : Key). IsNamed new b r.parent r.name) (key_same ka q hit) two_now)
      | inr miss' ↦
          let stood = indexed.sound q j (sym (at_else q miss miss') ∙ h) in
          (stood.0, others j (is_other a j ka q one stood miss') (is_other b j kb q two stood miss) ∙ stood.1, stood.2)
    ]
  ]

  whole : (q : Key) (j : ℕ) → IsNamed new j q.parent q.name → found same_key m'' q ≡ Some j
  whole q j h = elim (cases_eq a j) [
    | inl e ↦
        let same = key_of_named new a kb q one_now (subst (λ i. IsNamed new i q.parent q.name) (sym e) h) in
        at_kb q (subst (λ (r : Key). same_key kb r ≡ true) same (same_self kb)) ∙ ap (λ (i : ℕ). Some i) e
    | inr ne ↦ elim (cases_eq b j) [
      | inl e ↦
          let same = key_of_named new b ka q two_now (subst (λ i. IsNamed new i q.parent q.name) (sym e) h) in
          at_ka q (subst (λ (r : Key). same_key kb r ≡ false) same keys_differ) (subst (λ (r : Key). same_key ka r ≡ true) same (same_self ka)) ∙ ap (λ (i : ℕ). Some i) e
      | inr ne' ↦
          let stood : IsNamed old j q.parent q.name = (h.0, sym (others j ne ne') ∙ h.1, h.2) in
          let miss : same_key kb q ≡ false = elim (cases_Bool (same_key kb q)) [
            | inl hit ↦ absurd (ne' (is_same_at b j kb q two stood hit))
            | inr miss ↦ miss
          ] in
          let miss' : same_key ka q ≡ false = elim (cases_Bool (same_key ka q)) [
            | inl hit ↦ absurd (ne (is_same_at a j ka q one stood hit))
            | inr miss ↦ miss
          ] in
          at_else q miss miss' ∙ indexed.whole q j stood
    ]
  ]

  pub IsIndexed-swapped : IsIndexed new m''
  IsIndexed-swapped = record { sound = sound; whole = whole }
