-- All nodes except the root, sorted by number.
use Rattle.std.proofs.Common.{ℕ, ◌+◌, ◌<◌, ◌≤◌, ◌≡◌, List, [], ◌∷◌, ◌++◌, Some, None, All, AllPairs, Contains, length, get_or, refl, sym, ap, ◌∙◌, subst, inl, inr, arith}
use Rattle.std.proofs.lemmas.Bool.{cases_eq, cases_lt}
use Rattle.std.proofs.lemmas.List.Elements.{All-push, All-weaker, Contains-append_left, Contains-push}
use Rattle.std.proofs.lemmas.List.Quantifiers.{all_pairs_push}
use Rattle.std.proofs.lemmas.Option.{none-some, same_Some}
use Rattle.tree.specs.declared.nodes.Node.{Node}
use Rattle.tree.specs.Places.{Lookup, IsAlive, IsNextAlive}
use Rattle.table_steps.specs.Living.{AreLiving, AreLivingUpTo, IsLivingUpTo}

pub up_to_root : (at : Lookup) → AreLivingUpTo at 1 []
up_to_root at = record {
  rising = λ i j d before within. absurd (omega (arith, within));
  each = λ k d within. absurd (omega (arith, within));
  all = λ n x here above within. absurd (omega (arith, above, within));
}

module _ (at : Lookup) (last next g : ℕ) (pairs : List (ℕ × ℕ)) (first : 1 ≤ last) (is : IsNextAlive at last next) (generation : (x : Node) → at next ≡ Some x → g ≡ x.generation) (so_far : AreLivingUpTo at last pairs) where
  further : (a : ℕ × ℕ) → IsLivingUpTo at last a → IsLivingUpTo at next a
  further a it = record { node = it.node; here = it.here; generation = it.generation; not_root = it.not_root; within = omega (arith, it.within, is.above) }

  reached : (n : ℕ) (x : Node) → at n ≡ Some x → 1 < n → n ≤ next → Contains (pairs ++ (next, g) ∷ []) (n, x.generation)
  reached n x here above within = elim (cases_eq n next) [
    | inl e ↦
        let life : g ≡ x.generation = generation x (ap at (sym e) ∙ here) in
        subst (Contains (pairs ++ (next, g) ∷ [])) (λ i. (sym e i, life i)) (Contains-push pairs (next, g))
    | inr ne ↦ elim (cases_lt last n) [
      | inl after ↦ absurd (none-some x (sym (is.least n after (omega (arith, within, ne))) ∙ here))
      | inr before ↦ Contains-append_left pairs ((next, g) ∷ []) (n, x.generation) (so_far.all n x here above before)
    ]
  ]

  pub up_to_next : AreLivingUpTo at next (pairs ++ (next, g) ∷ [])
  up_to_next = record {
    rising = all_pairs_push (λ (a b : ℕ × ℕ). a.0 < b.0) pairs (next, g) so_far.rising (λ k d within. let it = so_far.each k d within in omega (arith, it.within, is.above));
    each = All-push (IsLivingUpTo at next) pairs (next, g) (All-weaker (IsLivingUpTo at last) (IsLivingUpTo at next) further pairs so_far.each)
        (record { node = is.alive.0; here = is.alive.1; generation = sym (generation is.alive.0 is.alive.1); not_root = omega (arith, first, is.above); within = omega arith });
    all = reached;
  }

-- no node has number 0, so these are all
pub living_all : (at : Lookup) (last : ℕ) (pairs : List (ℕ × ℕ)) → at 0 ≡ None → ((n : ℕ) → IsAlive at n → n ≤ last) → AreLivingUpTo at last pairs → AreLiving at pairs
living_all at last pairs none above all = record {
  last = last;
  up_to = all;
  no_more = λ n x here. elim (cases_eq n 0) [
    | inl e ↦ absurd (none-some x (sym none ∙ (ap at (sym e) ∙ here)))
    | inr ne ↦ (omega (arith, ne), above n (x, here))
  ];
}
