-- Numbers as the system spells them.
use Rattle.std.proofs.Common.{◌≢◌, ◌≤◌, ◌<◌, ◌^◌, ◌+◌, ◌%◌, ℕ, List, [], ◌∷◌, ◌++◌, All, arith}
use Rattle.std.specs.Fmt.{decimal}
use Rattle.std.proofs.lemmas.Fmt.{decimal_by_steps}
use Rattle.std.proofs.lemmas.List.Elements.{All-nil, All-cons, All-push}

abbrev IsPlain : List ℕ → Type 0
IsPlain bytes = All (λ byte. byte ≢ 0) bytes

digit_is_plain : (d : ℕ) → 48 + d ≢ 0
digit_is_plain d e = omega (arith, e)

-- no digit is NUL
pub decimal_is_plain : (n : ℕ) → n < 2 ^ 64 → All (λ byte. byte ≢ 0) (decimal n)
decimal_is_plain n small =
    let one : (d : ℕ) → d < 10 → IsPlain ((48 + d) ∷ []) = λ d _. All-cons (λ byte. byte ≢ 0) (48 + d) [] (digit_is_plain d) (All-nil (λ byte. byte ≢ 0)) in
    let more : (m : ℕ) (ds : List ℕ) → 10 ≤ m → IsPlain ds → IsPlain (ds ++ ((48 + m % 10) ∷ [])) = λ m ds _ plain. All-push (λ byte. byte ≢ 0) ds (48 + m % 10) plain (digit_is_plain (m % 10)) in
    decimal_by_steps (λ _ ds. IsPlain ds) one more n small
