use Rattle.std.proofs.Common.{ℕ, List, drop, take, sym, ap, ◌∙◌}
use Rattle.std.proofs.lemmas.Bool.{eqb-true, eq-eqb}
use Rattle.std.specs.Int.{from_le_bytes, to_le_bytes, w64}
use Rattle.paths.proofs.PaddedLemmas.{same_words}
use Rattle.paths.proofs.short.are_same.Goals as goal

pub returns : goal.returns
returns c = (
  λ equal. same_words c.args.bytes.now c.args.others.now c.told-bytes c.told-others
      (sym c.word.ensures.back ∙ ap (to_le_bytes w64) c.if-word.false ∙ c.word-2.ensures.back)
      (sym c.word-3.ensures.back ∙ ap (to_le_bytes w64) c.if-word-2.false ∙ c.word-4.ensures.back)
      (sym c.word-5.ensures.back ∙ ap (to_le_bytes w64) (eqb-true c.word-5.result c.word-6.result equal) ∙ c.word-6.ensures.back),
  λ same. eq-eqb c.word-5.result c.word-6.result (c.word-5.ensures.value ∙ ap (λ (bytes : List ℕ). from_le_bytes w64 (take 8 (drop 14 bytes))) same ∙ sym c.word-6.ensures.value),
)
