use Rattle.std.proofs.Common.{ℕ, ◌≡◌, ◌<◌, length, get_or, rules, arith, sym, ◌∙◌, subst}
use Rattle.paths.specs.Prefixes.{Names}
use Rattle.holds.proofs.Among.{among_found, among_none}
use Rattle.holds.proofs.finding.contains.Goals as goal

pub returns-then-is-clause-among : goal.returns-then-is-clause-among
returns-then-is-clause-among c =
    let xs = c.args.paths.now in
    let x = c.other-item.result in
    let same : x ≡ c.args.path.now = c.is.ensures.0 c.if-is.true in
    sym (among_found xs c.loop-other.other-index x c.args.path.now (search rules) (sym c.other-item.is ∙ same))

pub returns-clause-among : goal.returns-clause-among
returns-clause-among c =
    let xs = c.args.paths.now in
    let all : c.loop-other.other-index ≡ length xs = omega arith in
    sym (among_none xs c.args.path.now (subst (λ j. (k : ℕ) (d : Names) → k < j → get_or xs k d ≡ c.args.path.now → ⊥) all c.loop-other.invariant))
