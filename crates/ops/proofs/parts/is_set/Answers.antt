use Rattle.std.proofs.Common.{◌≡◌, ◌*◌, ◌%◌, ◌^◌, nat_eq, bit_and, not, ap, ◌∙◌, arith}
use Rattle.std.proofs.Math.Pow.{pow-lt}
use Rattle.ops.proofs.Bits.{is_set}
use Rattle.ops.proofs.parts.is_set.Goals as goal

pub returns : goal.returns
returns c =
    let shifted : (1 * 2 ^ c.args.bit) % 4294967296 ≡ 2 ^ c.args.bit = omega (arith, pow-lt c.requires) in
    ap (λ n. not (nat_eq (bit_and c.args.valid n) 0)) shifted ∙ is_set c.args.valid c.args.bit
