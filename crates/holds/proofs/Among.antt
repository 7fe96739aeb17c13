-- Tests of paths and records, and what they mean.
use Rattle.std.proofs.Common.{ℕ, ◌&&◌, ◌<◌, ◌≡◌, ◌+◌, true, false, List, Contains, length, get_or, refl, sym, ap, ◌∙◌, subst, arith, inl, inr}
use Rattle.std.proofs.lemmas.Bool.{and_parts, cases_Bool, cases_eq}
use Rattle.std.proofs.lemmas.List.{get_or_default}
use Rattle.std.proofs.lemmas.List.Folds.{list_any_none, list_any_at}
use Rattle.paths.specs.Prefixes.{Names, is_prefix}
use Rattle.paths.proofs.PrefixLemmas.{is_prefix-both, is_prefix-same}
use Rattle.holds.specs.Conflicts.{is_among}

pub same_path : (p q : Names) → p ≡ q → (is_prefix p q && is_prefix q p) ≡ true
same_path p q e = subst (λ (r : Names). (is_prefix p r && is_prefix r p) ≡ true) e (rw (is_prefix-same p) refl)

pub other_path : (p q : Names) → (p ≡ q → ⊥) → (is_prefix p q && is_prefix q p) ≡ false
other_path p q ne = elim (cases_Bool (is_prefix p q && is_prefix q p)) [
  | inl both ↦ let parts = and_parts (is_prefix p q) (is_prefix q p) both in absurd (ne (is_prefix-both p q parts.0 parts.1))
  | inr none ↦ none
]

pub among_found : (ps : List Names) (i : ℕ) (d path : Names) → i < length ps → get_or ps i d ≡ path → is_among ps path ≡ true
among_found ps i d path within e = list_any_at (λ (p : Names). is_prefix p path && is_prefix path p) ps i d within (same_path (get_or ps i d) path e)

pub among_none : (ps : List Names) (path : Names) → ((k : ℕ) (d : Names) → k < length ps → get_or ps k d ≡ path → ⊥) → is_among ps path ≡ false
among_none ps path none = list_any_none (λ (p : Names). is_prefix p path && is_prefix path p) ps (λ k d within. other_path (get_or ps k d) path (none k d within))

-- the element that was read at an index
pub contains_read : {X : Type 0} → (xs : List X) (i : ℕ) (x y : X) → i < length xs → x ≡ get_or xs i x → x ≡ y → Contains xs y
contains_read xs i x y within read same = (i, within, sym (get_or_default xs i x y within) ∙ (sym read ∙ same))

-- one more element, for which nothing holds
pub none_more : {X : Type 0} → (P : X → Type 0) (xs : List X) (i : ℕ) (x : X) → i < length xs → x ≡ get_or xs i x → (P x → ⊥)
    → ((k : ℕ) (d : X) → k < i → P (get_or xs k d) → ⊥) → (k : ℕ) (d : X) → k < i + 1 → P (get_or xs k d) → ⊥
none_more P xs i x within read other before k d below h = elim (cases_eq k i) [
  | inl e ↦ other (subst P (ap (λ (j : ℕ). get_or xs j d) e ∙ (get_or_default xs i d x within ∙ sym read)) h)
  | inr ne ↦ before k d (omega arith) h
]
