-- What the test for equal paths says.
use Rattle.std.proofs.Common.{ℕ, ◌≡◌, ◌<◌, ◌+◌, true, false, [], ◌∷◌, length, drop, refl, sym, ap, ◌∙◌, subst, inl, inr, ◌⊎◌, get_or, add-one, drop-cons}
use Rattle.std.proofs.lemmas.Bool.{and_parts, true≢false, false≢true, cases_Bool}
use Rattle.paths.specs.Prefixes.{Name, Names, is_name}
use Rattle.paths.proofs.PrefixLemmas.{is_name-true, is_name-same, is_name-no}
use Rattle.backing.specs.Tree.{is_path}

pub is_path-true : (p q : Names) → is_path p q ≡ true → p ≡ q
is_path-true [] [] h = refl
is_path-true [] (y ∷ q) h = absurd (false≢true h)
is_path-true (x ∷ p) [] h = absurd (false≢true h)
is_path-true (x ∷ p) (y ∷ q) h =
    let parts = and_parts (is_name x y) (is_path p q) h in
    ap (λ (c : Name). c ∷ p) (is_name-true x y parts.0) ∙ ap (λ (r : Names). y ∷ r) (is_path-true p q parts.1)

pub is_path-same : (p : Names) → is_path p p ≡ true
is_path-same [] = refl
is_path-same (x ∷ p) = rw (is_name-same x, is_path-same p) refl

pub is_path-yes : (p q : Names) → p ≡ q → is_path p q ≡ true
is_path-yes p q e = subst (λ (r : Names). is_path p r ≡ true) e (is_path-same p)

pub is_path-no : (p q : Names) → (p ≡ q → ⊥) → is_path p q ≡ false
is_path-no p q ne = elim (cases_Bool (is_path p q)) [
  | inl h ↦ absurd (ne (is_path-true p q h))
  | inr h ↦ h
]

pub is_path-false : (p q : Names) → is_path p q ≡ false → p ≡ q → ⊥
is_path-false p q h e = true≢false (sym (is_path-yes p q e) ∙ h)

pub same_path : (p q : Names) → (p ≡ q) ⊎ (p ≡ q → ⊥)
same_path p q = elim (cases_Bool (is_path p q)) [
  | inl h ↦ inl (is_path-true p q h)
  | inr h ↦ inr (is_path-false p q h)
]

-- paths of different lengths are different
pub is_path-length : (p q : Names) → (length p ≡ length q → ⊥) → is_path p q ≡ false
is_path-length p q ne = is_path-no p q (λ e. ne (ap (λ (r : Names). length r) e))

-- the test continues after the first i names of both, if they agree there
pub is_path-drop : (p q : Names) (i : ℕ) (d e : Name) → i < length p → i < length q → get_or p i d ≡ get_or q i e → is_path (drop i p) (drop i q) ≡ is_path (drop (i + 1) p) (drop (i + 1) q)
is_path-drop p q i d e within within' same =
    rw (add-one, drop-cons p i d within, drop-cons q i e within', same, is_name-same (get_or q i e)) refl

pub is_path-drop_no : (p q : Names) (i : ℕ) (d e : Name) → i < length p → i < length q → (get_or p i d ≡ get_or q i e → ⊥) → is_path (drop i p) (drop i q) ≡ false
is_path-drop_no p q i d e within within' other =
    rw (drop-cons p i d within, drop-cons q i e within', is_name-no (get_or p i d) (get_or q i e) other) refl
