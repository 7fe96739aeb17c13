use Rattle.std.proofs.Common.{◌≡◌, ℕ, ◌++◌, ◌≤◌, List, take, replicate, ap, ◌∙◌, arith}
use Rattle.std.proofs.lemmas.List.{take-replicate}
use Rattle.wire.specs.Written.{zeros}
use Rattle.wire.proofs.put.put_zeros.Goals as goal

pub returns-clause-items : goal.returns-clause-items
unfolding zeros
returns-clause-items c =
    let few : c.args.count ≤ 255 = omega arith in
    let front : take c.args.count (replicate 255 0) ≡ replicate c.args.count 0 = take-replicate c.args.count 255 0 few in
    c.put.ensures.items ∙ ap (λ (r : List ℕ). c.args.out.now.items ++ r) front
