-- Numbers as their last digits in base 16.
use Rattle.std.proofs.Common.{ℕ, zero, suc, ◌+◌, ◌-◌, ◌*◌, ◌/◌, ◌%◌, ◌^◌, ◌<◌, ◌≤◌, ◌≡◌, ◌≢◌, All, List, [], ◌∷◌, ◌++◌, length, refl, sym, ap, ◌∙◌, arith, inl, inr}
use Rattle.std.specs.Prelude.{codes}
use Rattle.std.proofs.Math.Nat.{mul_assoc, pow-suc}
use Rattle.std.proofs.lemmas.Bool.{cases_lt, cond-true, cond-false, lt-ltb, le-ltb}
use Rattle.std.proofs.lemmas.List.{append_cancel_left, length-append}
use Rattle.std.proofs.lemmas.List.Elements.{All-append, All-from_recursion, All-nil, All-push}
use Rattle.std.proofs.lemmas.Str.{IsUtf8-from_ascii}
use Rattle.std.proofs.lemmas.Str.Ascii.{IsAscii-from_all}
use Rattle.paths.specs.Hidden.{IsLawfulName, hex_digit, hex_digits, hidden_name}

-- the digit of a value below ten, and of one from ten on
low_digit : (d : ℕ) → d < 10 → hex_digit d ≡ 48 + d
low_digit d small = cond-true _ (48 + d) (87 + d) (lt-ltb d 10 small)

high_digit : (d : ℕ) → 10 ≤ d → hex_digit d ≡ 87 + d
high_digit d large = cond-false _ (48 + d) (87 + d) (le-ltb d 10 large)

-- a digit determines its value
same_digit : (c d : ℕ) → c < 16 → d < 16 → hex_digit c ≡ hex_digit d → c ≡ d
same_digit c d small less same = elim (cases_lt c 10) [
  | inl low ↦ elim (cases_lt d 10) [
    | inl lower ↦ omega (arith, same, low_digit c low, low_digit d lower)
    | inr higher ↦ omega (arith, same, low_digit c low, high_digit d higher)
  ]
  | inr high ↦ elim (cases_lt d 10) [
    | inl lower ↦ omega (arith, same, high_digit c high, low_digit d lower)
    | inr higher ↦ omega (arith, same, high_digit c high, high_digit d higher)
  ]
]

-- a digit is ASCII, and not a slash
not_slash : (d : ℕ) → d < 16 → hex_digit d ≢ 47
not_slash d small e = elim (cases_lt d 10) [
  | inl low ↦ absurd (omega (arith, e, low_digit d low))
  | inr high ↦ absurd (omega (arith, e, high_digit d high))
]

ascii_digit : (d : ℕ) → d < 16 → hex_digit d < 128
ascii_digit d small = elim (cases_lt d 10) [
  | inl low ↦ omega (arith, low_digit d low)
  | inr high ↦ omega (arith, high_digit d high)
]

below_base : (n : ℕ) → n % 16 < 16
below_base n = omega arith

-- one digit more
pub digits_more : (k n : ℕ) → 0 < k → hex_digits k n ≡ hex_digits (k - 1) (n / 16) ++ hex_digit (n % 16) ∷ []
unfolding hex_digits
digits_more zero n some = absurd (omega arith)
digits_more (suc k) n some = let e : suc k - 1 ≡ k = omega arith in rw e refl

pub no_digits : (n : ℕ) → hex_digits 0 n ≡ []
unfolding hex_digits
no_digits n = refl

module _ (P : ℕ → Type 0) (holds : (d : ℕ) → d < 16 → P (hex_digit d)) where
  all_digits : (k n : ℕ) → All P (hex_digits k n)
  unfolding hex_digits
  all_digits zero n = All-nil P
  all_digits (suc k) n = All-push P (hex_digits k (n / 16)) (hex_digit (n % 16)) (all_digits k (n / 16)) (holds (n % 16) (below_base n))

-- there are as many digits as were asked for
length-hex_digits : (k n : ℕ) → length (hex_digits k n) ≡ k
unfolding hex_digits
length-hex_digits zero n = refl
length-hex_digits (suc k) n = let rest = length-hex_digits k (n / 16) in omega (arith, rest, length-append (hex_digits k (n / 16)) (hex_digit (n % 16) ∷ []))

abbrev first_of : List ℕ → ℕ
first_of [] = 0
first_of (x ∷ xs) = x

abbrev rest_of : List ℕ → List ℕ
rest_of [] = []
rest_of (x ∷ xs) = xs

-- two lists that each end in one more element
same_last : (xs ys : List ℕ) (x y : ℕ) → length xs ≡ length ys → xs ++ x ∷ [] ≡ ys ++ y ∷ [] → (xs ≡ ys) × (x ≡ y)
same_last [] [] x y same e = (refl, ap first_of e)
same_last [] (b ∷ ys) x y same e = absurd (omega (arith, same))
same_last (a ∷ xs) [] x y same e = absurd (omega (arith, same))
same_last (a ∷ xs) (b ∷ ys) x y same e =
    let rest = same_last xs ys x y (omega (arith, same)) (ap rest_of e) in
    (ap (λ (c : ℕ). c ∷ xs) (ap first_of e) ∙ ap (λ (cs : List ℕ). b ∷ cs) rest.0, rest.1)

-- the digits determine a number that has no more of them
pub same_number : (k m n : ℕ) → m < 16 ^ k → n < 16 ^ k → hex_digits k m ≡ hex_digits k n → m ≡ n
unfolding hex_digits
same_number zero m n small less e = omega arith
same_number (suc k) m n small less e =
    let p = pow-suc 16 k in
    let both = same_last (hex_digits k (m / 16)) (hex_digits k (n / 16)) (hex_digit (m % 16)) (hex_digit (n % 16)) (length-hex_digits k (m / 16) ∙ sym (length-hex_digits k (n / 16))) e in
    let rest : m / 16 ≡ n / 16 = same_number k (m / 16) (n / 16) (omega arith) (omega arith) both.0 in
    let last : m % 16 ≡ n % 16 = same_digit (m % 16) (n % 16) (below_base m) (below_base n) both.1 in
    omega arith

-- a number with more digits
up_by : (n r : ℕ) → (n + r * 16) / 16 ≡ n / 16 + r
up_by n r = omega arith

same_end : (n r : ℕ) → (n + r * 16) % 16 ≡ n % 16
same_end n r = omega arith

-- higher digits are left out
more_digits : (k q n : ℕ) → hex_digits k (n + q * 16 ^ k) ≡ hex_digits k n
unfolding hex_digits
more_digits zero q n = refl
more_digits (suc k) q n =
    let all : q * 16 ^ suc k ≡ q * 16 ^ k * 16 = ap (λ (p : ℕ). q * p) (pow-suc 16 k) ∙ sym (mul_assoc q (16 ^ k) 16) in
    rw (all, up_by n (q * 16 ^ k), same_end n (q * 16 ^ k)) (ap (λ (ds : List ℕ). ds ++ hex_digit (n % 16) ∷ []) (more_digits k q (n / 16)))

pub modulo : (n : ℕ) → hex_digits 8 n ≡ hex_digits 8 (n % 2 ^ 32)
modulo n =
    let parts : n ≡ n % 2 ^ 32 + n / 2 ^ 32 * 16 ^ 8 = omega arith in
    ap (hex_digits 8) parts ∙ more_digits 8 (n / 2 ^ 32) (n % 2 ^ 32)

-- eight digits, one by one
pub eight : (n : ℕ) → hex_digits 8 n ≡ hex_digit (n / 16 / 16 / 16 / 16 / 16 / 16 / 16 % 16) ∷ hex_digit (n / 16 / 16 / 16 / 16 / 16 / 16 % 16) ∷ hex_digit (n / 16 / 16 / 16 / 16 / 16 % 16) ∷ hex_digit (n / 16 / 16 / 16 / 16 % 16) ∷ hex_digit (n / 16 / 16 / 16 % 16) ∷ hex_digit (n / 16 / 16 % 16) ∷ hex_digit (n / 16 % 16) ∷ hex_digit (n % 16) ∷ []
unfolding hex_digits
eight n = refl

module _ (P : ℕ → Type 0) (start : All P (codes ".fuse_hidden")) (holds : (d : ℕ) → d < 16 → P (hex_digit d)) where
  all_of_it : (number counter : ℕ) → All P (hidden_name number counter)
  all_of_it number counter = All-append P (codes ".fuse_hidden") _ start (All-append P (hex_digits 8 number) (hex_digits 8 counter) (all_digits P holds 8 number) (all_digits P holds 8 counter))

length-hidden_name : (number counter : ℕ) → length (hidden_name number counter) ≡ 28
length-hidden_name number counter =
    let a = length-append (codes ".fuse_hidden") (hex_digits 8 number ++ hex_digits 8 counter) in
    let b = length-append (hex_digits 8 number) (hex_digits 8 counter) in
    omega (arith, a, b, length-hex_digits 8 number, length-hex_digits 8 counter)

-- every hidden name is a lawful reserved name
pub lawful : (number counter : ℕ) → IsLawfulName (hidden_name number counter)
lawful number counter =
    let long = length-hidden_name number counter in
    record {
      bytes = long;
      utf8 = IsUtf8-from_ascii (hidden_name number counter) (IsAscii-from_all (hidden_name number counter) (all_of_it (λ b. b < 128) (All-from_recursion (λ b. b < 128) (codes ".fuse_hidden") (search arith)) ascii_digit number counter));
      no_slash = all_of_it (λ b. b ≢ 47) (All-from_recursion (λ b. b ≢ 47) (codes ".fuse_hidden") (search arith)) not_slash number counter;
      not_here = λ e. absurd (omega (arith, long, ap length e));
      not_above = λ e. absurd (omega (arith, long, ap length e));
      reserved = refl;
    }

-- from equal names, equal counters
pub apart : (number c d : ℕ) → c < 2 ^ 32 → d < 2 ^ 32 → c ≢ d → hidden_name number c ≢ hidden_name number d
apart number c d small less ne e =
    ne (same_number 8 c d (omega arith) (omega arith) (append_cancel_left (hex_digits 8 number) _ _ (append_cancel_left (codes ".fuse_hidden") _ _ e)))
