use Rattle.std.proofs.Common.{◌≡◌, ◌≤◌, subst, length, List, [], ◌∷◌, Option, arith}
use Rattle.paths.specs.Prefixes.{Names}
use Rattle.ops.specs.declared.findings.FoundFile.{FoundFile}
use Rattle.ops.specs.Looking.{plan_looking, Looking}
use Rattle.ops.specs.Scripts.{End, Over}
use Rattle.ops.proofs.looks.Looks.into_result.Goals as goal

-- if a path is left, a Stat is asked for
asks : (left : List Names) (found : List (Option FoundFile)) (end : End) → 1 ≤ length left → plan_looking (record { left = left; found = found }) ≡ Over end → ⊥
asks [] found end some over = absurd (omega (arith, some))
asks (p ∷ ps) found end some over = absurd cc

pub returns-in-len1-up : goal.returns-in-len1-up
returns-in-len1-up c = λ end over.
    let some : 1 ≤ length c.args.self.left = subst (λ (l : Looking). 1 ≤ length l.left) c.self.view_is c.in-len1-up.len_at_least in
    absurd (asks c.args.self.left c.args.self.found end some over)
