-- What the numbers of a slab have after one key was changed.
use Rattle.std.proofs.Common.{ℕ, ◌+◌, ◌-◌, ◌≡◌, ◌==◌, if◌then◌else◌, Option, Some, None, refl, sym, ap, ◌∙◌, subst, inl, inr, arith}
use Rattle.std.proofs.lemmas.Bool.{cases_eq, cond-false, cond-true, eq-eqb, ne_eqb}
use Rattle.std.proofs.lemmas.Option.{none-some, same_Some}
use Rattle.std.specs.Prelude.{option_map}
use mathlib.Core.Path.{fun_ext}
use Rattle.slab.specs.Slab.{Slab, get, Updates}
use Rattle.collections.specs.declared.children.Kin.{Kin}
use Rattle.collections.specs.declared.children.Linked.{Linked}
use Rattle.collections.specs.Links.{value_of, kin_or, linked_at, value_at, kin_at, IsThere, IsLinked, IsLawful, with_parent}

pub if_same : {A : Type 0} (n m : ℕ) (x y : A) → n ≡ m → (if n == m then x else y) ≡ x
if_same n m x y e = cond-true (n == m) x y (eq-eqb n m e)

pub if_other : {A : Type 0} (n m : ℕ) (x y : A) → (n ≡ m → ⊥) → (if n == m then x else y) ≡ y
if_other n m x y ne = cond-false (n == m) x y (ne_eqb n m ne)

module _ {T : Type 0} where
  -- the number that belongs to a key
  pub linked_of : (s : Slab (Linked T)) (n k : ℕ) → n ≡ k + 1 → linked_at s n ≡ get s k
  linked_of s n k e =
      let less : n - 1 ≡ k = omega arith in
      if_other n 0 None (get s (n - 1)) (λ z. omega arith) ∙ ap (get s) less

  pub linked_none : (s : Slab (Linked T)) (n : ℕ) → n ≡ 0 → linked_at s n ≡ None
  linked_none s n e = if_same n 0 None (get s (n - 1)) e

  -- a value is found at a key
  pub value_some : (o : Option (Linked T)) (x : T) → option_map value_of o ≡ Some x → (l : Linked T) × (o ≡ Some l) × (l.value ≡ x)
  value_some None x h = absurd (none-some x h)
  value_some (Some l) x h = (l, refl, same_Some l.value x h)

  -- 0 has no value
  pub there_real : (s : Slab (Linked T)) (n : ℕ) → IsThere s n → n ≡ 0 → ⊥
  there_real s n it e = none-some it.0 (sym (ap (λ (o : Option (Linked T)). option_map value_of o) (linked_none s n e)) ∙ it.1)

  -- a number with a child has a value
  there_by : (s : Slab (Linked T)) (n : ℕ) (o : Option (Linked T)) → linked_at s n ≡ o → ((kin_or o).newest ≡ 0 → ⊥) → IsThere s n
  there_by s n None e some = absurd (some refl)
  there_by s n (Some l) e some = (l.value, ap (λ (w : Option (Linked T)). option_map value_of w) e)

  pub kin_there : (s : Slab (Linked T)) (n : ℕ) → ((kin_at s n).newest ≡ 0 → ⊥) → IsThere s n
  kin_there s n some = there_by s n (linked_at s n) refl some

  -- with the same values
  pub there_as : (s s' : Slab (Linked T)) → value_at s' ≡ value_at s → (n : ℕ) → IsThere s n → IsThere s' n
  there_as s s' same n it = (it.0, ap (λ (v : ℕ → Option T). v n) same ∙ it.1)

  -- after one number got another parent
  pub there_with : (s s' : Slab (Linked T)) → value_at s' ≡ value_at s → (parents : ℕ → Option ℕ) (c : ℕ) (o : Option ℕ) → IsThere s c → ((n p : ℕ) → parents n ≡ Some p → IsThere s n) → (n p : ℕ) → with_parent parents c o n ≡ Some p → IsThere s' n
  there_with s s' same parents c o here there n p stood = there_as s s' same n (elim (cases_eq c n) [
    | inl e ↦ subst (IsThere s) e here
    | inr ne ↦ there n p (sym (if_other c n o (parents n) ne) ∙ stood)
  ])

  -- a change of one key
  module _ (old new : Slab (Linked T)) (k n : ℕ) (o : Option (Linked T)) (e : n ≡ k + 1) (u : Updates old new k o) where
    pub linked_updated : (m : ℕ) → linked_at new m ≡ (if n == m then o else linked_at old m)
    linked_updated m = elim (cases_eq n m) [
      | inl same ↦ linked_of new m k (sym same ∙ e) ∙ (u.changed ∙ sym (if_same n m o (linked_at old m) same))
      | inr ne ↦ elim (cases_eq m 0) [
        | inl none ↦ linked_none new m none ∙ (sym (linked_none old m none) ∙ sym (if_other n m o (linked_at old m) ne))
        | inr some ↦
            let here : m ≡ m - 1 + 1 = omega arith in
            linked_of new m (m - 1) here ∙ (u.others (m - 1) (λ same. ne (omega arith)) ∙ (sym (linked_of old m (m - 1) here) ∙ sym (if_other n m o (linked_at old m) ne)))
      ]
    ]

    -- the same for any view of what a number has
    pub view_updated : {A : Type 0} (f : Option (Linked T) → A) (m : ℕ) → f (linked_at new m) ≡ (if n == m then f o else f (linked_at old m))
    view_updated f m = ap f (linked_updated m) ∙ elim (cases_eq n m) [
      | inl same ↦ ap f (if_same n m o (linked_at old m) same) ∙ sym (if_same n m (f o) (f (linked_at old m)) same)
      | inr ne ↦ ap f (if_other n m o (linked_at old m) ne) ∙ sym (if_other n m (f o) (f (linked_at old m)) ne)
    ]

    pub view_kept : {A : Type 0} (f : Option (Linked T) → A) → f o ≡ f (get old k) → (m : ℕ) → f (linked_at new m) ≡ f (linked_at old m)
    view_kept f keeps m = ap f (linked_updated m) ∙ elim (cases_eq n m) [
      | inl same ↦ ap f (if_same n m o (linked_at old m) same) ∙ (keeps ∙ ap f (sym (linked_of old m k (sym same ∙ e))))
      | inr ne ↦ ap f (if_other n m o (linked_at old m) ne)
    ]

    -- the values, and the links
    pub value_updated : value_at new ≡ (λ m. if n == m then option_map value_of o else value_at old m)
    value_updated = fun_ext (view_updated (λ (w : Option (Linked T)). option_map value_of w))

    pub kin_kept : kin_or o ≡ kin_or (get old k) → kin_at new ≡ kin_at old
    kin_kept keeps = fun_ext (view_kept kin_or keeps)

    pub values_kept : option_map value_of o ≡ option_map value_of (get old k) → value_at new ≡ value_at old
    values_kept keeps = fun_ext (view_kept (λ (w : Option (Linked T)). option_map value_of w) keeps)

  -- the law depends only on values and links
  pub lawful_as : (parents parents' : ℕ → Option ℕ) (s s' : Slab (Linked T)) → ((n : ℕ) → parents' n ≡ parents n) → kin_at s' ≡ kin_at s → ((n p : ℕ) → parents n ≡ Some p → IsThere s' n) → IsLawful parents s → IsLawful parents' s'
  lawful_as parents parents' s s' same links there law = record {
    there = λ n p h. there n p (sym (same n) ∙ h);
    rank = law.rank;
    linked = subst (λ (f : ℕ → Option ℕ). IsLinked f (kin_at s') law.rank) (sym (fun_ext same)) (subst (λ (k : ℕ → Kin). IsLinked parents k law.rank) (sym links) law.linked);
  }

  -- the same links and the same values
  pub lawful_kept : (parents : ℕ → Option ℕ) (s s' : Slab (Linked T)) → kin_at s' ≡ kin_at s → ((n p : ℕ) → parents n ≡ Some p → IsThere s' n) → IsLawful parents s → IsLawful parents s'
  lawful_kept parents s s' links there law = lawful_as parents parents s s' (λ n. refl) links there law
