use Rattle.std.proofs.Common.{ℕ, ◌≡◌, ◌++◌, List, length, drop, take, replicate, sym, ap, ◌∙◌, arith}
use Rattle.paths.specs.Padded.{padded}
use Rattle.paths.proofs.PaddedLemmas.{name_padded, name_put}
use Rattle.paths.proofs.short.ShortBytes.of.Goals as goal

pub invariant_of-result : goal.invariant_of-result
invariant_of-result c =
    let name = c.args.name.now in
    let put : c.copy_from_slice.new.self ++ drop (length name) (replicate {A = ℕ} 22 0) ≡ padded name = ap (λ (q : List ℕ). q ++ drop (length name) (replicate {A = ℕ} 22 0)) c.copy_from_slice.ensures.after ∙ name_put name in
    (omega (arith, c.if-len-gt-SHORT.false), put ∙ ap padded (sym (ap (take (length name)) put ∙ name_padded name)))
