-- A list whose elements have keys: what a look-up finds after one was added or removed, and the sum over them.
use Rattle.std.proofs.Common.{ℕ, zero, suc, ◌+◌, ◌<◌, ◌≡◌, ◌≢◌, ◌==◌, List, [], ◌∷◌, ◌++◌, Option, Some, None, AllPairs, if◌then◌else◌, length, get_or, drop, drop-cons, add-one, refl, sym, ap, ◌∙◌, subst, inl, inr, arith}
use Rattle.std.specs.Prelude.{find, option_map, sum_by}
use Rattle.std.specs.List.{remove}
use Rattle.std.proofs.lemmas.Bool.{cases_eq, cond-false, cond-true, eq-eqb, ne_eqb}
use Rattle.std.proofs.lemmas.Option.{none-some, same_Some}
use mathlib.Core.Path.{fun_ext}
use Rattle.collections.specs.Sum.{IsSum}
use Rattle.collections.proofs.Listing.{sum_listed}
use Rattle.collections.proofs.Seen.{sum_seen}

module _ {X Y : Type 0} (key : X → ℕ) (value : X → Y) where
  -- the value of the key
  abbrev pub found : List X → ℕ → Option Y
  found xs n = option_map value (find (λ x. key x == n) xs)

  -- no two elements have the same key
  abbrev pub HaveOwnKeys : List X → Type 0
  HaveOwnKeys xs = AllPairs (λ x y. key x ≢ key y) xs

  found_first : (x : X) (xs : List X) (n : ℕ) → key x ≡ n → found (x ∷ xs) n ≡ Some (value x)
  found_first x xs n e = ap (option_map value) (cond-true (key x == n) (Some x) (find (λ y. key y == n) xs) (eq-eqb (key x) n e))

  found_later : (x : X) (xs : List X) (n : ℕ) → key x ≢ n → found (x ∷ xs) n ≡ found xs n
  found_later x xs n ne = ap (option_map value) (cond-false (key x == n) (Some x) (find (λ y. key y == n) xs) (ne_eqb (key x) n ne))

  -- what is found is in the list
  pub where_found : (xs : List X) (n : ℕ) (y : Y) → found xs n ≡ Some y → (i : ℕ) × (i < length xs) × ((d : X) → (key (get_or xs i d) ≡ n) × (value (get_or xs i d) ≡ y))
  where_found [] n y h = absurd (none-some y h)
  where_found (x ∷ xs) n y h = elim (cases_eq (key x) n) [
    | inl e ↦ (0, omega arith, λ d. (e, same_Some (value x) y (sym (found_first x xs n e) ∙ h)))
    | inr ne ↦ let it = where_found xs n y (sym (found_later x xs n ne) ∙ h) in (suc it.0, omega (arith, it.1), it.2)
  ]

  -- no element has the key
  pub not_found : (xs : List X) (n : ℕ) → ((j : ℕ) (d : X) → j < length xs → key (get_or xs j d) ≢ n) → found xs n ≡ None
  not_found [] n other = refl
  not_found (x ∷ xs) n other = found_later x xs n (other 0 x (omega arith)) ∙ not_found xs n (λ j d within. other (suc j) d (omega arith))

  pub first_apart : (x : X) (xs : List X) → HaveOwnKeys (x ∷ xs) → found xs (key x) ≡ None
  first_apart x xs apart = not_found xs (key x) (λ j d within e. apart 0 (suc j) d (omega arith) (omega arith) (sym e))

  rest_apart : (x : X) (xs : List X) → HaveOwnKeys (x ∷ xs) → HaveOwnKeys xs
  rest_apart x xs apart i j d before within = apart (suc i) (suc j) d (omega arith) (omega arith)

  -- what is in the list is found
  pub found_at : (xs : List X) (i : ℕ) (d : X) → HaveOwnKeys xs → i < length xs → found xs (key (get_or xs i d)) ≡ Some (value (get_or xs i d))
  found_at [] i d apart within = absurd (omega arith)
  found_at (x ∷ xs) zero d apart within = found_first x xs (key x) refl
  found_at (x ∷ xs) (suc i) d apart within =
      found_later x xs (key (get_or xs i d)) (λ e. apart 0 (suc i) d (omega arith) (omega arith) e) ∙ found_at xs i d (rest_apart x xs apart) (omega arith)

  push_at : (xs : List X) (x : X) (n : ℕ) → found xs (key x) ≡ None → found (xs ++ x ∷ []) n ≡ (if key x == n then Some (value x) else found xs n)
  push_at [] x n fresh = elim (cases_eq (key x) n) [
    | inl e ↦ found_first x [] n e ∙ sym (cond-true (key x == n) (Some (value x)) None (eq-eqb (key x) n e))
    | inr ne ↦ found_later x [] n ne ∙ sym (cond-false (key x == n) (Some (value x)) None (ne_eqb (key x) n ne))
  ]
  push_at (y ∷ ys) x n fresh =
      let other : key y ≢ key x = λ e. none-some (value y) (sym fresh ∙ found_first y ys (key x) e) in
      let later : found ys (key x) ≡ None = sym (found_later y ys (key x) other) ∙ fresh in
      elim (cases_eq (key y) n) [
        | inl e ↦ found_first y (ys ++ x ∷ []) n e ∙ (sym (found_first y ys n e) ∙ sym (cond-false (key x == n) (Some (value x)) (found (y ∷ ys) n) (ne_eqb (key x) n (λ same. other (e ∙ sym same)))))
        | inr ne ↦ found_later y (ys ++ x ∷ []) n ne ∙ (push_at ys x n later ∙ ap (λ (o : Option Y). if key x == n then Some (value x) else o) (sym (found_later y ys n ne)))
      ]

  -- a look-up after a push
  pub found-push : (xs : List X) (x : X) → found xs (key x) ≡ None → found (xs ++ x ∷ []) ≡ (λ n. if key x == n then Some (value x) else found xs n)
  found-push xs x fresh = fun_ext (λ n. push_at xs x n fresh)

  remove_at : (xs : List X) (i : ℕ) (d : X) (n : ℕ) → HaveOwnKeys xs → i < length xs → found (remove xs i) n ≡ (if key (get_or xs i d) == n then None else found xs n)
  remove_at [] i d n apart within = absurd (omega arith)
  remove_at (x ∷ xs) zero d n apart within = elim (cases_eq (key x) n) [
    | inl e ↦ subst (λ m. found xs m ≡ None) e (first_apart x xs apart) ∙ sym (cond-true (key x == n) None (found (x ∷ xs) n) (eq-eqb (key x) n e))
    | inr ne ↦ sym (found_later x xs n ne) ∙ sym (cond-false (key x == n) None (found (x ∷ xs) n) (ne_eqb (key x) n ne))
  ]
  remove_at (x ∷ xs) (suc i) d n apart within =
      let rest = remove_at xs i d n (rest_apart x xs apart) (omega arith) in
      let other : key x ≢ key (get_or xs i d) = apart 0 (suc i) d (omega arith) (omega arith) in
      elim (cases_eq (key x) n) [
        | inl e ↦ found_first x (remove xs i) n e ∙ (sym (found_first x xs n e) ∙ sym (cond-false (key (get_or xs i d) == n) None (found (x ∷ xs) n) (ne_eqb (key (get_or xs i d)) n (λ same. other (e ∙ sym same)))))
        | inr ne ↦ found_later x (remove xs i) n ne ∙ (rest ∙ ap (λ (o : Option Y). if key (get_or xs i d) == n then None else o) (sym (found_later x xs n ne)))
      ]

  -- a look-up after a removal
  pub found-remove : (xs : List X) (i : ℕ) (d : X) → HaveOwnKeys xs → i < length xs → found (remove xs i) ≡ (λ n. if key (get_or xs i d) == n then None else found xs n)
  found-remove xs i d apart within = fun_ext (λ n. remove_at xs i d n apart within)

  -- a search from the front finds it
  pub found-drop_here : (xs : List X) (i : ℕ) (d : X) (n : ℕ) → i < length xs → key (get_or xs i d) ≡ n → found (drop i xs) n ≡ Some (value (get_or xs i d))
  found-drop_here xs i d n within same = rw (drop-cons xs i d within) (found_first (get_or xs i d) (drop (suc i) xs) n same)

  pub found-drop_more : (xs : List X) (i : ℕ) (d : X) (n : ℕ) → i < length xs → key (get_or xs i d) ≢ n → found (drop i xs) n ≡ found (drop (i + 1) xs) n
  found-drop_more xs i d n within ne = rw (add-one, drop-cons xs i d within) (found_later (get_or xs i d) (drop (suc i) xs) n ne)

  -- the sum over the list is the sum over what is found
  pub sum_found : (xs : List X) (weight : Y → ℕ) → HaveOwnKeys xs → IsSum (found xs) weight (sum_by (λ x. weight (value x)) xs)
  sum_found xs weight apart = sum_seen (λ n. find (λ x. key x == n) xs) value (λ x. weight (value x)) weight _ (λ k x here. refl) (sum_listed key (λ x. weight (value x)) xs apart)
