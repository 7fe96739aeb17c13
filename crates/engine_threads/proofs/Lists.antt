-- Lists that are processed in parallel.
use Rattle.std.proofs.Common.{◌≡◌, ℕ, zero, suc, ◌+◌, List, [], ◌∷◌, ◌++◌, length, map, Option, Some, None, IfNone, IfSome, Result, Ok, Err, IfOk, refl, sym, ap, ◌∙◌, subst, append_assoc, append-nil, arith}
use Rattle.std.specs.List.{All, range_with_len}
use Rattle.std.specs.Result.{result_ok}
use Rattle.std.proofs.lemmas.Option.{none-some}
use Rattle.std.proofs.lemmas.List.{map-append}
use Rattle.ledger.specs.Shares.{Part, nothing}
use Rattle.std.proofs.lemmas.List.Elements.{All-cons, All-head, All-nil, All-push, All-rest, All-same, All-tail}

-- the last element of a mapped list
pub map_last : {X V : Type 0} (f : X → V) (xs : List X) (x : X) → map f (xs ++ x ∷ []) ≡ map f xs ++ f x ∷ []
map_last f xs x = map-append f xs (x ∷ [])

module _ {X : Type 0} (P : X → Type 0) where
  -- the first of the remaining ones
  pub first_of : (x : X) (from rest : List X) → from ≡ x ∷ rest → All P from → P x
  first_of x from rest s all = All-head P x rest (All-same P (x ∷ rest) from (sym s) all)

  pub others_of : (x : X) (from rest : List X) → from ≡ x ∷ rest → All P from → All P rest
  others_of x from rest s all = All-rest P x rest from s all

  pub one_more : (made new : List X) (x : X) → new ≡ made ++ x ∷ [] → All P made → P x → All P new
  one_more made new x n all this = All-same P new (made ++ x ∷ []) n (All-push P made x all this)

pub range_more : (a n : ℕ) → range_with_len a (suc n) ≡ range_with_len a n ++ (a + n) ∷ []
range_more a zero = let e : a ≡ a + 0 = omega arith in ap (λ k. k ∷ []) e
range_more a (suc n) = let e : (a + 1) + n ≡ a + suc n = omega arith in ap (λ l. a ∷ l) (range_more (a + 1) n ∙ ap (λ k. range_with_len (a + 1) n ++ k ∷ []) e)

-- new shares are empty
pub none_posted : (indices : List ℕ) → All (λ (p : Part). p.totals ≡ nothing) (map (λ (i : ℕ). let p : Part = record { index = i; totals = nothing } in p) indices)
none_posted [] = All-nil (λ (p : Part). p.totals ≡ nothing)
none_posted (i ∷ indices) = All-cons (λ (p : Part). p.totals ≡ nothing) (record { index = i; totals = nothing }) (map (λ (k : ℕ). let p : Part = record { index = k; totals = nothing } in p) indices) refl (none_posted indices)

-- what is known of a value that was taken out
pub ok_of : {A E : Type 0} (P : A → Type 0) (r : Result A E) (x : A) → Some x ≡ result_ok r → IfOk r P → P x
ok_of P (Ok y) x e h = let same : y ≡ x = cc in subst P same h
ok_of P (Err y) x e h = absurd (none-some x (sym e))

-- two lists that were made in parallel
pub in_step : {X Y V : Type 0} (f : X → V) (h : Y → V) (x : X) (y : Y) (from xs : List X) (from' ys : List Y) → from ≡ x ∷ xs → from' ≡ y ∷ ys → map f from ≡ map h from' → (f x ≡ h y) × (map f xs ≡ map h ys)
in_step f h x y from xs from' ys s t e =
    let both : f x ∷ map f xs ≡ h y ∷ map h ys = ap (map f) (sym s) ∙ (e ∙ ap (map h) t) in
    (cc both, cc both)

pub map_through : {X Y V : Type 0} (f : X → Y) (h : Y → V) (xs : List X) → map (λ (x : X). h (f x)) xs ≡ map h (map f xs)
map_through f h [] = refl
map_through f h (x ∷ xs) = ap (λ l. h (f x) ∷ l) (map_through f h xs)

-- the last element of a list, and those before it
pub last_same : {X : Type 0} (xs ys : List X) (x y : X) → xs ++ x ∷ [] ≡ ys ++ y ∷ [] → (xs ≡ ys) × (x ≡ y)
last_same [] [] x y e = (refl, cc e)
last_same [] (b ∷ []) x y e = absurd (cc e)
last_same [] (b ∷ c ∷ ys) x y e = absurd (cc e)
last_same (a ∷ []) [] x y e = absurd (cc e)
last_same (a ∷ c ∷ xs) [] x y e = absurd (cc e)
last_same (a ∷ xs) (b ∷ ys) x y e =
    let heads : a ≡ b = cc e in
    let tails : xs ++ x ∷ [] ≡ ys ++ y ∷ [] = cc e in
    let rest = last_same xs ys x y tails in
    (ap (λ l. a ∷ l) rest.0 ∙ ap (λ k. k ∷ ys) heads, rest.1)

-- the last element of a list that was made from the numbers from 0 on
pub last_one : {V : Type 0} (f : ℕ → V) (n : ℕ) (all rest : List V) (last : V) → all ≡ map f (range_with_len 0 (n + 1)) → all ≡ rest ++ last ∷ [] → (rest ≡ map f (range_with_len 0 n)) × (last ≡ f n)
last_one f n all rest last made cut =
    let more : n + 1 ≡ suc n = omega arith in
    let this : 0 + n ≡ n = omega arith in
    let whole = made ∙ (ap (λ k. map f (range_with_len 0 k)) more ∙ (ap (map f) (range_more 0 n) ∙ map_last f (range_with_len 0 n) (0 + n))) in
    let first = last_same rest (map f (range_with_len 0 n)) last (f (0 + n)) (sym cut ∙ whole) in
    (first.0, first.1 ∙ ap f this)

pub range_length : (a n : ℕ) → length (range_with_len a n) ≡ n
range_length a zero = refl
range_length a (suc n) = ap suc (range_length (a + 1) n)

pub map_length : {X V : Type 0} (f : X → V) (xs : List X) → length (map f xs) ≡ length xs
map_length f [] = refl
map_length f (x ∷ xs) = ap suc (map_length f xs)

-- what each has leads to something else that each has
pub all_so : {X : Type 0} (P Q : X → Type 0) (xs : List X) → ((x : X) → P x → Q x) → All P xs → All Q xs
all_so P Q [] f all = All-nil Q
all_so P Q (x ∷ xs) f all = All-cons Q x xs (f x (All-head P x xs all)) (all_so P Q xs f (All-tail P x xs all))

-- the next of those that are numbered from n on
pub next_number : {X : Type 0} (f : X → ℕ) (x : X) (from rest : List X) (n : ℕ) → from ≡ x ∷ rest → map f from ≡ range_with_len n (length from) → (f x ≡ n) × (map f rest ≡ range_with_len (n + 1) (length rest))
next_number {X} f x from rest n s e =
    let both : f x ∷ map f rest ≡ n ∷ range_with_len (n + 1) (length rest) = ap (map f) (sym s) ∙ (e ∙ ap (λ (l : List X). range_with_len n (length l)) s) in
    (cc both, cc both)

-- one more of a list, from before to after
pub moved_on : {X : Type 0} (whole before left rest : List X) (x : X) → whole ≡ before ++ left → left ≡ x ∷ rest → whole ≡ (before ++ x ∷ []) ++ rest
moved_on {X} whole before left rest x w l = w ∙ (ap (λ (r : List X). before ++ r) l ∙ sym (append_assoc before (x ∷ []) rest))

pub none_so : {A : Type 0} (P Q : Type 0) (o : Option A) → IfNone o (P × Q) → IfNone o P
none_so P Q None h = h.0
none_so P Q (Some a) h = tt

pub none_never : {A : Type 0} (P : Type 0) (o : Option A) → IfNone o ⊥ → IfNone o P
none_never P None h = absurd h
none_never P (Some a) h = tt
