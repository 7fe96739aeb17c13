use Rattle.std.proofs.Common.{ℕ, ◌++◌, List, drop, replicate, ap, ◌∙◌}
use Rattle.std.specs.Int.{from_be_bytes, w64}
use Rattle.paths.specs.Padded.{leading}
use Rattle.paths.proofs.PaddedLemmas.{copied_first}
use Rattle.paths.proofs.leading_of.Goals as goal

pub returns : goal.returns
unfolding leading
returns c =
    c.from_be_bytes.ensures
    ∙ ap (from_be_bytes w64) (ap (λ (q : List ℕ). q ++ drop c.min-len.result (replicate {A = ℕ} 8 0)) c.copy_from_slice.ensures.after ∙ copied_first c.args.bytes.now c.min-len.result c.min-len.ensures)
