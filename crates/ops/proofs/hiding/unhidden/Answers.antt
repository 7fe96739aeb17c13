use Rattle.std.proofs.Common.{◌≡◌, ◌≤◌, ℕ, length, List, [], ◌∷◌, arith}
use Rattle.paths.specs.Prefixes.{Names}
use Rattle.ops.specs.Scripts.{End, Over, Plan, hide}
use Rattle.ops.proofs.hiding.unhidden.Goals as goal

-- if a candidate is left, a Stat is asked for
asks : (path : Names) (left : List Names) (rest : ℕ → Plan) (end : End) → 1 ≤ length left → hide path left rest ≡ Over end → ⊥
asks path [] rest end some over = absurd (omega (arith, some))
asks path (c ∷ cs) rest end some over = absurd cc

pub returns-in-len1-up : goal.returns-in-len1-up
returns-in-len1-up c path rest end over = absurd (asks path c.args.left.now rest end c.in-len1-up.len_at_least over)
