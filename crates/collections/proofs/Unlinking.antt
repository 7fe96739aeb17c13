-- A child is removed from its parent: its neighbours are linked to each other.
use Rattle.std.proofs.Common.{ℕ, ◌<◌, ◌≡◌, Option, Some, None, refl, sym, ap, ◌∙◌, subst, inl, inr, arith}
use Rattle.std.proofs.lemmas.Bool.{cases_eq}
use Rattle.std.proofs.lemmas.Option.{none-some, same_Some}
use Rattle.collections.specs.declared.children.Kin.{Kin}
use Rattle.collections.specs.Links.{IsLinked, IsNext, with_parent}
use Rattle.collections.proofs.Written.{if_same, if_other}
use Rattle.collections.proofs.Linking.{child_real}

-- the neighbours of a child
module _ (parents : ℕ → Option ℕ) (kin : ℕ → Kin) (rank : ℕ → ℕ) (law : IsLinked parents kin rank) (c : ℕ) where
  pub newer_apart : ((kin c).newer ≡ 0 → ⊥) → (kin c).newer ≡ c → ⊥
  newer_apart some e =
      let less = law.rises c (kin c).newer refl some in
      let same : rank (kin c).newer ≡ rank c = ap rank e in
      omega (arith, less, same)

  pub older_next : ((kin c).older ≡ 0 → ⊥) → IsNext parents kin (kin c).older c
  older_next some = law.older (kin c).older c refl some

  pub older_apart : (p : ℕ) → parents c ≡ Some p → ((kin c).older ≡ 0 → ⊥) → (kin c).older ≡ c → ⊥
  older_apart p stood some e =
      let next = older_next some in
      let less = law.rises (kin c).older c next.newer (child_real parents c p law.none stood) in
      let same : rank (kin c).older ≡ rank c = ap rank e in
      omega (arith, less, same)

  -- the neighbours have the same parent
  pub newer_parent : (p : ℕ) → parents c ≡ Some p → ((kin c).newer ≡ 0 → ⊥) → parents (kin c).newer ≡ Some p
  newer_parent p stood some = let next = law.newer c (kin c).newer refl some in next.newer_parent ∙ (sym next.older_parent ∙ stood)

  pub older_parent : (p : ℕ) → parents c ≡ Some p → ((kin c).older ≡ 0 → ⊥) → parents (kin c).older ≡ Some p
  older_parent p stood some = let next = older_next some in next.older_parent ∙ (sym next.newer_parent ∙ stood)

module _ (parents : ℕ → Option ℕ) (kin kin' : ℕ → Kin) (rank : ℕ → ℕ) (c p : ℕ) (law : IsLinked parents kin rank) (stood : parents c ≡ Some p)
    (newer_here : (kin' c).newer ≡ 0)
    (newer_at : ((kin c).older ≡ 0 → ⊥) → (kin' (kin c).older).newer ≡ (kin c).newer)
    (newer_off : (m : ℕ) → (c ≡ m → ⊥) → (((kin c).older ≡ 0 → ⊥) → (kin c).older ≡ m → ⊥) → (kin' m).newer ≡ (kin m).newer)
    (older_here : (kin' c).older ≡ 0)
    (older_at : ((kin c).newer ≡ 0 → ⊥) → (kin' (kin c).newer).older ≡ (kin c).older)
    (older_off : (m : ℕ) → (c ≡ m → ⊥) → (((kin c).newer ≡ 0 → ⊥) → (kin c).newer ≡ m → ⊥) → (kin' m).older ≡ (kin m).older)
    (newest_at : (kin c).newer ≡ 0 → (kin' p).newest ≡ (kin c).older)
    (newest_off : (q : ℕ) → ((kin c).newer ≡ 0 → p ≡ q → ⊥) → (kin' q).newest ≡ (kin q).newest) where
  abbrev a : ℕ
  a = (kin c).newer

  abbrev b : ℕ
  b = (kin c).older

  abbrev after : ℕ → Option ℕ
  after = with_parent parents c None

  real : c ≡ 0 → ⊥
  real = child_real parents c p law.none stood

  after_other : (m : ℕ) → (c ≡ m → ⊥) → after m ≡ parents m
  after_other m ne = if_other c m None (parents m) ne

  after_some : (n q : ℕ) → after n ≡ Some q → (c ≡ n → ⊥) × (parents n ≡ Some q)
  after_some n q h = elim (cases_eq c n) [
    | inl e ↦ absurd (none-some q (sym (if_same c n None (parents n) e) ∙ h))
    | inr ne ↦ (ne, sym (after_other n ne) ∙ h)
  ]

  above : (a ≡ 0 → ⊥) → IsNext parents kin c a
  above some = law.newer c a refl some

  below : (b ≡ 0 → ⊥) → IsNext parents kin b c
  below some = law.older b c refl some

  off_newer : (a ≡ 0 → ⊥) → c ≡ a → ⊥
  off_newer some e = newer_apart parents kin rank law c some (sym e)

  off_older : (b ≡ 0 → ⊥) → c ≡ b → ⊥
  off_older some e = older_apart parents kin rank law c p stood some (sym e)

  under_newer : (a ≡ 0 → ⊥) → parents a ≡ Some p
  under_newer some = newer_parent parents kin rank law c p stood some

  under_older : (b ≡ 0 → ⊥) → parents b ≡ Some p
  under_older some = older_parent parents kin rank law c p stood some

  next_new : (a ≡ 0 → ⊥) → (b ≡ 0 → ⊥) → IsNext after kin' b a
  next_new more less = record {
    parent = p;
    older_parent = after_other b (off_older less) ∙ under_older less;
    newer_parent = after_other a (off_newer more) ∙ under_newer more;
    newer = newer_at less;
    older = older_at more;
  }

  -- pairs of neighbours without the child remain
  next_kept : (n m : ℕ) → (c ≡ n → ⊥) → (c ≡ m → ⊥) → IsNext parents kin n m → IsNext after kin' n m
  next_kept n m ne ne' next = record {
    parent = next.parent;
    older_parent = after_other n ne ∙ next.older_parent;
    newer_parent = after_other m ne' ∙ next.newer_parent;
    newer = newer_off n ne (λ some e. ne' (sym (below some).newer ∙ (ap (λ k. (kin k).newer) e ∙ next.newer))) ∙ next.newer;
    older = older_off m ne' (λ some e. ne (sym (above some).older ∙ (ap (λ k. (kin k).older) e ∙ next.older))) ∙ next.older;
  }

  -- the newer sibling of the child's older one is now the child's newer one, and that of others is unchanged
  by_newer : (P : ℕ → ℕ → Type 0) → ((a ≡ 0 → ⊥) → (b ≡ 0 → ⊥) → P b a) → ((n m : ℕ) → (c ≡ n → ⊥) → (c ≡ m → ⊥) → IsNext parents kin n m → rank m < rank n → P n m) → (n m : ℕ) → (kin' n).newer ≡ m → (m ≡ 0 → ⊥) → P n m
  by_newer P new kept n m e some =
      let ne : c ≡ n → ⊥ = λ same. some (sym e ∙ (ap (λ k. (kin' k).newer) (sym same) ∙ newer_here)) in
      let was : ((b ≡ 0 → ⊥) → b ≡ n → ⊥) → P n m = λ off.
      let h : (kin n).newer ≡ m = sym (newer_off n ne off) ∙ e in
      let next = law.newer n m h some in
      let ne' : c ≡ m → ⊥ = λ same.
      let under : b ≡ n = ap (λ k. (kin k).older) same ∙ next.older in
      off (λ z. child_real parents n next.parent law.none next.older_parent (sym under ∙ z)) under in
      kept n m ne ne' next (law.rises n m h some) in
      elim (cases_eq b n) [
        | inl same ↦ elim (cases_eq b 0) [
          | inl z ↦ was (λ less h. less z)
          | inr less ↦
              let newer : a ≡ m = sym (newer_at less) ∙ (ap (λ k. (kin' k).newer) same ∙ e) in
              subst (λ k. P k m) same (subst (λ k. P b k) newer (new (λ z. some (sym newer ∙ z)) less))
        ]
        | inr other ↦ was (λ less h. other h)
      ]

  pub linked_without : IsLinked after kin' rank
  linked_without = record {
    none = after_other 0 real ∙ law.none;
    first = λ n q here bare.
        let it = after_some n q here in
        let kept : ((b ≡ 0 → ⊥) → b ≡ n → ⊥) → (kin' q).newest ≡ n = λ off.
        let newest : (kin q).newest ≡ n = law.first n q it.1 (sym (newer_off n it.0 off) ∙ bare) in
        newest_off q (λ top under. it.0 (sym (law.first c p stood top) ∙ (ap (λ k. (kin k).newest) under ∙ newest))) ∙ newest in
        elim (cases_eq b n) [
          | inl same ↦
              let less : b ≡ 0 → ⊥ = λ z. child_real parents n q law.none it.1 (sym same ∙ z) in
              let top : a ≡ 0 = sym (newer_at less) ∙ (ap (λ k. (kin' k).newer) same ∙ bare) in
              let under : p ≡ q = same_Some p q (sym (under_older less) ∙ (ap parents same ∙ it.1)) in
              ap (λ k. (kin' k).newest) (sym under) ∙ (newest_at top ∙ same)
          | inr other ↦ kept (λ less h. other h)
        ];
    newest = λ n q e some.
        let kept : (a ≡ 0 → p ≡ q → ⊥) → (after n ≡ Some q) × ((kin' n).newer ≡ 0) = λ off.
        let was = law.newest n q (sym (newest_off q off) ∙ e) some in
        let ne : c ≡ n → ⊥ = λ same. off (ap (λ k. (kin k).newer) same ∙ was.1) (same_Some p q (sym stood ∙ (ap parents same ∙ was.0))) in
        (after_other n ne ∙ was.0, newer_off n ne (λ less h. real (sym (below less).newer ∙ (ap (λ k. (kin k).newer) h ∙ was.1))) ∙ was.1) in
        elim (cases_eq a 0) [
          | inl top ↦ elim (cases_eq p q) [
            | inl under ↦
                let older : b ≡ n = sym (newest_at top) ∙ (ap (λ k. (kin' k).newest) under ∙ e) in
                let less : b ≡ 0 → ⊥ = λ z. some (sym older ∙ z) in (
                  ap after (sym older) ∙ (after_other b (off_older less) ∙ (under_older less ∙ ap (λ k. Some k) under)),
                  ap (λ k. (kin' k).newer) (sym older) ∙ (newer_at less ∙ top),
                )
            | inr ne ↦ kept (λ z under. ne under)
          ]
          | inr more ↦ kept (λ z under. more z)
        ];
    newer = by_newer (λ n m. IsNext after kin' n m) next_new (λ n m ne ne' next less. next_kept n m ne ne' next);
    older = λ n m e some.
        let ne : c ≡ m → ⊥ = λ same. some (sym e ∙ (ap (λ k. (kin' k).older) (sym same) ∙ older_here)) in
        let was : ((a ≡ 0 → ⊥) → a ≡ m → ⊥) → IsNext after kin' n m = λ off.
        let next = law.older n m (sym (older_off m ne off) ∙ e) some in
        let ne' : c ≡ n → ⊥ = λ same.
        let over : a ≡ m = ap (λ k. (kin k).newer) same ∙ next.newer in
        off (λ z. child_real parents m next.parent law.none next.newer_parent (sym over ∙ z)) over in
        next_kept n m ne' ne next in
        elim (cases_eq a m) [
          | inl same ↦ elim (cases_eq a 0) [
            | inl z ↦ was (λ more h. more z)
            | inr more ↦
                let older : b ≡ n = sym (older_at more) ∙ (ap (λ k. (kin' k).older) same ∙ e) in
                subst (λ k. IsNext after kin' k m) older (subst (λ k. IsNext after kin' b k) same (next_new more (λ z. some (sym older ∙ z))))
          ]
          | inr other ↦ was (λ more h. other h)
        ];
    rises = by_newer (λ n m. rank m < rank n)
        (λ more less. let one = law.rises c a refl more in let two = law.rises b c (below less).newer real in omega (arith, one, two))
        (λ n m ne ne' next less. less);
  }
