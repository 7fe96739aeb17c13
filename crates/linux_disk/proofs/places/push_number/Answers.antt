use Rattle.std.proofs.Common.{◌≢◌, ◌<◌, ◌^◌, ◌∙◌, ℕ, List, All, subst, sym, arith}
use Rattle.linux_disk.proofs.NumberLemmas.{decimal_is_plain}
use Rattle.linux_disk.proofs.places.push_number.Goals as goal

pub push-requires : goal.push-requires
push-requires c =
    let Plain : List ℕ → Type 0 = λ text. All (λ byte. byte ≢ 0) text in
    let small : c.args.number < 2 ^ 64 = omega (arith, c.ranges.number) in
    subst Plain (sym (c.as_bytes.ensures.value ∙ c.format-text.ensures.text)) (decimal_is_plain c.args.number small)
