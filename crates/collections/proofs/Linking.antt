-- Adding a child to a parent, and what the newest child says about all children.
use Rattle.std.proofs.Common.{ℕ, zero, suc, ◌+◌, ◌<◌, ◌≡◌, ◌==◌, if◌then◌else◌, Option, Some, None, refl, sym, ap, ◌∙◌, subst, inl, inr, arith}
use Rattle.std.proofs.lemmas.Bool.{cases_eq}
use Rattle.std.proofs.lemmas.Option.{none-some, same_Some}
use Rattle.collections.specs.declared.children.Kin.{Kin}
use Rattle.collections.specs.Links.{IsLinked, IsNext, no_kin, with_parent}
use Rattle.collections.proofs.Written.{if_same, if_other}

-- a number with a parent is not 0
pub child_real : (parents : ℕ → Option ℕ) (n p : ℕ) → parents 0 ≡ None → parents n ≡ Some p → n ≡ 0 → ⊥
child_real parents n p none stood e = none-some p (sym none ∙ (ap parents (sym e) ∙ stood))

-- a number with a parent differs from one without
pub apart : (parents : ℕ → Option ℕ) (n m p : ℕ) → parents n ≡ None → parents m ≡ Some p → n ≡ m → ⊥
apart parents n m p none stood e = none-some p (sym none ∙ (ap parents e ∙ stood))

-- without a newest child there is no child: otherwise newer and newer siblings would have lower and lower ranks
module _ (parents : ℕ → Option ℕ) (kin : ℕ → Kin) (rank : ℕ → ℕ) (law : IsLinked parents kin rank) (p : ℕ) (none : (kin p).newest ≡ 0) where
  none_ranked : (most n : ℕ) → rank n < most → parents n ≡ Some p → ⊥
  none_ranked zero n low stood = absurd (omega (arith, low))
  none_ranked (suc most) n low stood = elim (cases_eq (kin n).newer 0) [
    | inl top ↦ child_real parents n p law.none stood (sym (law.first n p stood top) ∙ none)
    | inr more ↦
        let next = law.newer n (kin n).newer refl more in
        let less = law.rises n (kin n).newer refl more in
        none_ranked most (kin n).newer (omega (arith, low, less)) (next.newer_parent ∙ (sym next.older_parent ∙ stood))
  ]

  pub childless : (n : ℕ) → parents n ≡ Some p → ⊥
  childless n stood = none_ranked (rank n + 1) n (omega arith) stood

-- a number with neither a parent nor a child has no links
pub bare_kin : (parents : ℕ → Option ℕ) (kin : ℕ → Kin) (rank : ℕ → ℕ) → IsLinked parents kin rank → (n : ℕ) → parents n ≡ None → ((m : ℕ) → parents m ≡ Some n → ⊥) → kin n ≡ no_kin
bare_kin parents kin rank law n orphan none =
    let newer : (kin n).newer ≡ 0 = elim (cases_eq (kin n).newer 0) [
      | inl e ↦ e
      | inr ne ↦ let next = law.newer n (kin n).newer refl ne in absurd (none-some next.parent (sym orphan ∙ next.older_parent))
    ] in
    let older : (kin n).older ≡ 0 = elim (cases_eq (kin n).older 0) [
      | inl e ↦ e
      | inr ne ↦ let next = law.older (kin n).older n refl ne in absurd (none-some next.parent (sym orphan ∙ next.newer_parent))
    ] in
    let newest : (kin n).newest ≡ 0 = elim (cases_eq (kin n).newest 0) [
      | inl e ↦ e
      | inr ne ↦ absurd (none (kin n).newest (law.newest (kin n).newest n refl ne).0)
    ] in
    λ i. record { newer = newer i; older = older i; newest = newest i }

-- without parents there need be no links
pub linked_bare : (parents : ℕ → Option ℕ) (kin : ℕ → Kin) → ((n : ℕ) → parents n ≡ None) → ((n : ℕ) → kin n ≡ no_kin) → IsLinked parents kin (λ n. 0)
linked_bare parents kin orphans bare = record {
  none = orphans 0;
  first = λ n p stood top. absurd (none-some p (sym (orphans n) ∙ stood));
  newest = λ n p e some. absurd (some (sym e ∙ ap (λ (k : Kin). k.newest) (bare p)));
  newer = λ n m e some. absurd (some (sym e ∙ ap (λ (k : Kin). k.newer) (bare n)));
  older = λ n m e some. absurd (some (sym e ∙ ap (λ (k : Kin). k.older) (bare m)));
  rises = λ n m e some. absurd (some (sym e ∙ ap (λ (k : Kin). k.newer) (bare n)));
}

-- child c is added to p, whose newest child was f
module _ (parents : ℕ → Option ℕ) (kin kin' : ℕ → Kin) (rank : ℕ → ℕ) (c p : ℕ) (law : IsLinked parents kin rank) (fresh : parents c ≡ None) (real : c ≡ 0 → ⊥)
    (newer_some : ((kin p).newest ≡ 0 → ⊥) → (m : ℕ) → (kin' m).newer ≡ (if (kin p).newest == m then c else (kin m).newer))
    (newer_none : (kin p).newest ≡ 0 → (m : ℕ) → (kin' m).newer ≡ (kin m).newer)
    (older_is : (m : ℕ) → (kin' m).older ≡ (if c == m then (kin p).newest else (kin m).older))
    (newest_is : (m : ℕ) → (kin' m).newest ≡ (if p == m then c else (kin m).newest)) where
  abbrev f : ℕ
  f = (kin p).newest

  abbrev after : ℕ → Option ℕ
  after = with_parent parents c (Some p)

  abbrev pub ranked : ℕ → ℕ
  ranked m = if c == m then 0 else rank m + 1

  after_other : (m : ℕ) → (c ≡ m → ⊥) → after m ≡ parents m
  after_other m ne = if_other c m (Some p) (parents m) ne

  newer_other : (m : ℕ) → (f ≡ m → ⊥) → (kin' m).newer ≡ (kin m).newer
  newer_other m ne = elim (cases_eq f 0) [
    | inl e ↦ newer_none e m
    | inr some ↦ newer_some some m ∙ if_other f m c (kin m).newer ne
  ]

  top : (f ≡ 0 → ⊥) → (parents f ≡ Some p) × ((kin f).newer ≡ 0)
  top some = law.newest f p refl some

  -- the child had no siblings
  bare : (kin c).newer ≡ 0
  bare = elim (cases_eq (kin c).newer 0) [
    | inl e ↦ e
    | inr ne ↦ let next = law.newer c (kin c).newer refl ne in absurd (none-some next.parent (sym fresh ∙ next.older_parent))
  ]

  off_child : (n q : ℕ) → parents n ≡ Some q → c ≡ n → ⊥
  off_child n q stood e = apart parents c n q fresh stood e

  -- a number with a newer sibling is not the first
  off_first : (n m : ℕ) → IsNext parents kin n m → f ≡ n → ⊥
  off_first n m next e =
      let some : f ≡ 0 → ⊥ = λ z. child_real parents n next.parent law.none next.older_parent (sym e ∙ z) in
      child_real parents m next.parent law.none next.newer_parent (sym next.newer ∙ (ap (λ k. (kin k).newer) (sym e) ∙ (top some).1))

  next_kept : (n m : ℕ) → IsNext parents kin n m → IsNext after kin' n m
  next_kept n m next = record {
    parent = next.parent;
    older_parent = after_other n (off_child n next.parent next.older_parent) ∙ next.older_parent;
    newer_parent = after_other m (off_child m next.parent next.newer_parent) ∙ next.newer_parent;
    newer = newer_other n (off_first n m next) ∙ next.newer;
    older = older_is m ∙ (if_other c m f (kin m).older (off_child m next.parent next.newer_parent) ∙ next.older);
  }

  next_new : (f ≡ 0 → ⊥) → IsNext after kin' f c
  next_new some = record {
    parent = p;
    older_parent = after_other f (off_child f p (top some).0) ∙ (top some).0;
    newer_parent = if_same c c (Some p) (parents c) refl;
    newer = newer_some some f ∙ if_same f f c (kin f).newer refl;
    older = older_is c ∙ if_same c c f (kin c).older refl;
  }

  rank_other : (m : ℕ) → (c ≡ m → ⊥) → ranked m ≡ rank m + 1
  rank_other m ne = if_other c m 0 (rank m + 1) ne

  -- the newer sibling of the first is the child, and that of others is unchanged
  by_newer : (P : ℕ → ℕ → Type 0) → ((f ≡ 0 → ⊥) → P f c) → ((n m : ℕ) → IsNext parents kin n m → rank m < rank n → P n m) → (n m : ℕ) → (kin' n).newer ≡ m → (m ≡ 0 → ⊥) → P n m
  by_newer P new kept n m e some =
      let was : (kin n).newer ≡ m → P n m = λ h. kept n m (law.newer n m h some) (law.rises n m h some) in
      elim (cases_eq f n) [
        | inl same ↦ elim (cases_eq f 0) [
          | inl z ↦ was (sym (newer_none z n) ∙ e)
          | inr ne ↦
              let child : c ≡ m = sym (newer_some ne n ∙ if_same f n c (kin n).newer same) ∙ e in
              subst (λ k. P k m) same (subst (λ k. P f k) child (new ne))
        ]
        | inr ne ↦ was (sym (newer_other n ne) ∙ e)
      ]

  pub linked_with : IsLinked after kin' ranked
  linked_with = record {
    none = after_other 0 real ∙ law.none;
    first = λ n q stood bare'. elim (cases_eq c n) [
      | inl same ↦
          let under : p ≡ q = same_Some p q (sym (if_same c n (Some p) (parents n) same) ∙ stood) in
          newest_is q ∙ (if_same p q c (kin q).newest under ∙ same)
      | inr ne ↦
          let was : parents n ≡ Some q = sym (after_other n ne) ∙ stood in
          let other : f ≡ n → ⊥ = λ same.
          let some : f ≡ 0 → ⊥ = λ z. child_real parents n q law.none was (sym same ∙ z) in
          real (sym (newer_some some n ∙ if_same f n c (kin n).newer same) ∙ bare') in
          let newest : (kin q).newest ≡ n = law.first n q was (sym (newer_other n other) ∙ bare') in
          newest_is q ∙ (if_other p q c (kin q).newest (λ under. other (ap (λ k. (kin k).newest) under ∙ newest)) ∙ newest)
    ];
    newest = λ n q e some. elim (cases_eq p q) [
      | inl under ↦
          let same : c ≡ n = sym (newest_is q ∙ if_same p q c (kin q).newest under) ∙ e in
          let off : f ≡ c → ⊥ = λ h. elim (cases_eq f 0) [ inl z ↦ real (sym h ∙ z) | inr ne ↦ off_child f p (top ne).0 (sym h) ] in
          (if_same c n (Some p) (parents n) same ∙ ap (λ k. Some k) under, ap (λ k. (kin' k).newer) (sym same) ∙ (newer_other c off ∙ bare))
      | inr ne ↦
          let was = law.newest n q (sym (newest_is q ∙ if_other p q c (kin q).newest ne) ∙ e) some in
          let off : f ≡ n → ⊥ = λ h. ne (same_Some p q (sym (law.newest n p h some).0 ∙ was.0)) in
          (after_other n (off_child n q was.0) ∙ was.0, newer_other n off ∙ was.1)
    ];
    newer = by_newer (λ n m. IsNext after kin' n m) next_new (λ n m next less. next_kept n m next);
    older = λ n m e some. elim (cases_eq c m) [
      | inl same ↦
          let first : f ≡ n = sym (older_is m ∙ if_same c m f (kin m).older same) ∙ e in
          subst (λ k. IsNext after kin' k m) first (subst (λ k. IsNext after kin' f k) same (next_new (λ z. some (sym first ∙ z))))
      | inr ne ↦ next_kept n m (law.older n m (sym (older_is m ∙ if_other c m f (kin m).older ne) ∙ e) some)
    ];
    rises = by_newer (λ n m. ranked m < ranked n)
        (λ some. omega (arith, if_same c c 0 (rank c + 1) refl, rank_other f (off_child f p (top some).0)))
        (λ n m next less. omega (arith, less, rank_other n (off_child n next.parent next.older_parent), rank_other m (off_child m next.parent next.newer_parent)));
  }
