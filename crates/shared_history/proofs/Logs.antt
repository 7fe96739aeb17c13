-- Prefixes of a log, and the entries of one index.
use Rattle.std.proofs.Common.{◌≡◌, ◌≢◌, ◌==◌, ℕ, Bool, true, false, List, [], ◌∷◌, ◌++◌, refl, ap, sym, ◌∙◌, append_assoc, eq-eqb, ne_eqb, ◌⊎◌, inl, inr, ⊎_elim}
use mathlib.Core.List.{IsPrefix}
use Rattle.shared_history.specs.Views.{own, own_if, tagged}

module _ {A : Type 0} where
  pub prefix_self : (xs : List A) → IsPrefix xs xs
  prefix_self [] = ([], refl)
  prefix_self (x ∷ xs) = (let r = prefix_self xs in r.0, ap (λ ys. x ∷ ys) (prefix_self xs).1)

  -- a prefix of a log is a prefix of each longer one
  pub prefix_more : (xs ys more : List A) → IsPrefix xs ys → IsPrefix xs (ys ++ more)
  prefix_more xs ys more p = (p.0 ++ more, sym (append_assoc xs p.0 more) ∙ ap (λ (w : List A). w ++ more) p.1)

  -- of two prefixes of a list, one is a prefix of the other
  pub one_begins : (xs ys zs : List A) → IsPrefix xs zs → IsPrefix ys zs → IsPrefix xs ys ⊎ IsPrefix ys xs
  one_begins [] ys zs p q = inl (ys, refl)
  one_begins (x ∷ xs) [] zs p q = inr (x ∷ xs, refl)
  one_begins (x ∷ xs) (y ∷ ys) [] p q = absurd (cc (p.1))
  one_begins (x ∷ xs) (y ∷ ys) (z ∷ zs) p q =
      let heads : x ≡ y = cc (p.1, q.1) in
      ⊎_elim (λ (r : IsPrefix xs ys). inl (r.0, cc (heads, r.1))) (λ (r : IsPrefix ys xs). inr (r.0, cc (heads, r.1)))
      (one_begins xs ys zs (p.0, cc (p.1)) (q.0, cc (q.1)))

module _ {E : Type 0} where
  own_if-append : (b : Bool) (e : E) (xs ys : List E) → own_if b e (xs ++ ys) ≡ own_if b e xs ++ ys
  own_if-append true e xs ys = refl
  own_if-append false e xs ys = refl

  pub own-append : (i : ℕ) (xs ys : List (ℕ × E)) → own i (xs ++ ys) ≡ own i xs ++ own i ys
  own-append i [] ys = refl
  own-append i (x ∷ xs) ys = ap (λ (w : List E). own_if (x.0 == i) x.1 w) (own-append i xs ys) ∙ own_if-append (x.0 == i) x.1 (own i xs) (own i ys)

  pub own-tagged : (i : ℕ) (es : List E) → own i (tagged i es) ≡ es
  own-tagged i [] = refl
  own-tagged i (e ∷ es) = ap (λ b. own_if b e (own i (tagged i es))) (eq-eqb i i refl) ∙ ap (λ (w : List E). e ∷ w) (own-tagged i es)

  pub own-others : (i j : ℕ) (es : List E) → j ≢ i → own i (tagged j es) ≡ []
  own-others i j [] ne = refl
  own-others i j (e ∷ es) ne = ap (λ b. own_if b e (own i (tagged j es))) (ne_eqb j i ne) ∙ own-others i j es ne

  append-none : (xs : List E) → xs ++ [] ≡ xs
  append-none [] = refl
  append-none (x ∷ xs) = ap (λ (w : List E). x ∷ w) (append-none xs)

  -- the thread's own entries grow by what it adds, and those of others do not change
  pub own-mine : (i : ℕ) (log : List (ℕ × E)) (es mine : List E) → own i log ≡ mine → own i (log ++ tagged i es) ≡ mine ++ es
  own-mine i log es mine is = own-append i log (tagged i es) ∙ (ap (λ (w : List E). own i log ++ w) (own-tagged i es) ∙ ap (λ (w : List E). w ++ es) is)

  pub own-theirs : (i j : ℕ) (log : List (ℕ × E)) (es mine : List E) → j ≢ i → own i log ≡ mine → own i (log ++ tagged j es) ≡ mine
  own-theirs i j log es mine ne is = own-append i log (tagged j es) ∙ (ap (λ (w : List E). own i log ++ w) (own-others i j es ne) ∙ (append-none (own i log) ∙ is))
