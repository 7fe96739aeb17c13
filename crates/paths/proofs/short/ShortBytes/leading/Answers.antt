use Rattle.std.proofs.Common.{ℕ, ◌≡◌, List, length, take, sym, ap, ◌∙◌, arith}
use Rattle.std.proofs.lemmas.List.{length-take-le}
use Rattle.std.specs.Int.{from_be_bytes, w64}
use Rattle.paths.specs.Padded.{leading, padded}
use Rattle.paths.proofs.PaddedLemmas.{padded_first}
use Rattle.paths.proofs.short.ShortBytes.leading.Goals as goal

pub returns : goal.returns
unfolding leading
returns c =
    let name = c.args.self.now in
    let here : length name ≡ c.self.inside.len = ap (λ (q : List ℕ). length q) (sym c.self.view_is) ∙ length-take-le c.self.inside.len c.self.inside.bytes (omega (arith, c.self.invariant.0, c.self.told)) in
    c.first_word.ensures ∙ ap (from_be_bytes w64) (ap (take 8) (c.self.invariant.1 ∙ ap padded c.self.view_is) ∙ padded_first name (omega (arith, here, c.self.invariant.0)))
