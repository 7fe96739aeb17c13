-- The flag bits that are accepted.
use Rattle.std.proofs.Common.{◌≡◌, ℕ, ◌+◌, ◌*◌, ◌/◌, ◌%◌, ◌^◌, ◌<◌, bit_and, sym, ap, ◌∙◌, arith}
use Rattle.std.proofs.lemmas.Nat.{and_block, and_comm, and_mask, shr_split}
use Rattle.wire.specs.Negotiation.{agreed_flags}

-- the k lowest bits and the others, separately
block : (k a s n : ℕ) → s < 2 ^ k → bit_and (a * 2 ^ k + s) n ≡ bit_and a (n / 2 ^ k) * 2 ^ k + bit_and s (n % 2 ^ k)
block k a s n low = ap (λ x. bit_and (a * 2 ^ k + s) x) (sym (shr_split n k)) ∙ and_block k a (n / 2 ^ k) s (n % 2 ^ k) low (omega arith)

lowest : (n : ℕ) → bit_and 1 n ≡ n % 2
lowest n = and_comm 1 n ∙ and_mask n 1

-- bits 0, 5, 13, 18 and 22
pub taken : (flags : ℕ) → bit_and flags 4464673 ≡ agreed_flags flags
taken n =
    let a = block 5 139521 1 n (omega arith) in
    let b = block 8 545 1 (n / 32) (omega arith) in
    let c = block 5 17 1 (n / 32 / 256) (omega arith) in
    let d = block 4 1 1 (n / 32 / 256 / 32) (omega arith) in
    omega (arith, and_comm n 4464673, a, b, c, d, lowest (n % 32), lowest (n / 32 % 256), lowest (n / 32 / 256 % 32), lowest (n / 32 / 256 / 32 % 16), lowest (n / 32 / 256 / 32 / 16))
