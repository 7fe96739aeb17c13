-- Tests of bits.
use Rattle.std.proofs.Common.{◌≡◌, ℕ, zero, suc, ◌+◌, ◌*◌, ◌/◌, ◌%◌, ◌^◌, ◌<◌, true, false, nat_eq, if◌then◌else◌, bit_and, sym, ap, ◌∙◌, arith}
use Rattle.std.proofs.lemmas.Bool.{eq-eqb, ne_eqb}
use Rattle.std.proofs.lemmas.Nat.{and_block, and_comm, and_mask, and-not, pow_pos, shr_split}
use Rattle.std.proofs.lemmas.Nat.Bits.{and_pow}
use Rattle.std.specs.Int.{bit_at}
use Rattle.std.specs.Prelude.{not}

-- one bit of a number
set : (b m : ℕ) → b < 2 → 0 < m → not (nat_eq (b * m) 0) ≡ nat_eq b 1
set zero m bit some = let none : 0 * m ≡ 0 = omega arith in ap (λ x. not (nat_eq x 0)) none
set (suc zero) m bit some = ap not (ne_eqb (1 * m) 0 (λ e. omega (arith, e, some)))
set (suc (suc b)) m bit some = absurd (omega (arith, bit))

pub is_set : (n k : ℕ) → not (nat_eq (bit_and n (2 ^ k)) 0) ≡ nat_eq (bit_at n k) 1
is_set n k = ap (λ x. not (nat_eq x 0)) (and_pow n k) ∙ set (bit_at n k) (2 ^ k) (omega arith) (pow_pos k)

-- the three lowest bits and the others
block : (a s n : ℕ) → s < 8 → bit_and (a * 8 + s) n ≡ bit_and a (n / 8) * 8 + bit_and s (n % 8)
block a s n low = ap (λ x. bit_and (a * 8 + s) x) (sym (shr_split n 3)) ∙ and_block 3 a (n / 8) s (n % 8) low (omega arith)

lowest : (n : ℕ) → bit_and 1 n ≡ n % 2
lowest n = and_comm 1 n ∙ and_mask n 1

none : (n : ℕ) → bit_and 0 n ≡ 0
none n = and_comm 0 n ∙ and_mask n 0 ∙ omega arith

three : (n : ℕ) → bit_and 584 n ≡ 8 * (n / 8 % 2) + 64 * (n / 64 % 2) + 512 * (n / 512 % 2)
three n =
    let a = block 73 0 n (omega arith) in
    let b = block 9 1 (n / 8) (omega arith) in
    let c = block 1 1 (n / 8 / 8) (omega arith) in
    omega (arith, a, b, c, none (n % 8), lowest (n / 8 % 8), lowest (n / 8 / 8 % 8), lowest (n / 8 / 8 / 8))

rest : (x y n : ℕ) → x + y ≡ n → not (nat_eq x 0) ≡ (if nat_eq n y then false else true)
rest zero y n sum = ap (λ b. if b then false else true) (sym (eq-eqb n y (omega (arith, sum))))
rest (suc x) y n sum = ap not (ne_eqb (suc x) 0 (λ e. omega (arith, e))) ∙ ap (λ b. if b then false else true) (sym (ne_eqb n y (λ e. omega (arith, e, sum))))

-- a bit other than these three
pub is_other_set : (n : ℕ) → n < 2 ^ 32 → not (nat_eq (bit_and n 4294966711) 0) ≡ (if nat_eq n (2 ^ 3 * bit_at n 3 + 2 ^ 6 * bit_at n 6 + 2 ^ 9 * bit_at n 9) then false else true)
is_other_set n small =
    rest (bit_and n 4294966711) (2 ^ 3 * bit_at n 3 + 2 ^ 6 * bit_at n 6 + 2 ^ 9 * bit_at n 9) n
    (omega (arith, and_comm n 4294966711, and-not 32 584 n (omega arith) small, three n))
