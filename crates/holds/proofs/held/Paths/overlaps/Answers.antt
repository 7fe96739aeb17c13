use Rattle.std.proofs.Common.{ℕ, ◌≡◌, ◌<◌, Contains, length, get_or, rules, arith, sym, ◌∙◌, subst}
use Rattle.std.proofs.lemmas.Bool.{false≢true}
use Rattle.paths.specs.Prefixes.{Names}
use Rattle.holds.proofs.Among.{none_more}
use Rattle.holds.proofs.held.Paths.overlaps.Goals as goal

pub loop-path-preserved : goal.loop-path-preserved
loop-path-preserved c =
    let xs = c.as_slice-path-items.result.now in
    let x = c.path-item.result in
    let other : Contains c.args.other.now x → ⊥ = λ h. false≢true (sym c.if-contains.false ∙ c.contains.ensures.found.1 h) in
    none_more (λ (p : Names). Contains c.args.other.now p) xs c.loop-path.path-index x (search rules) c.path-item.is other c.loop-path.invariant

pub returns : goal.returns
returns c =
    let xs = c.as_slice-path-items.result.now in
    let all : c.loop-path.path-index ≡ length xs = omega arith in
    let none = subst (λ j. (k : ℕ) (d : Names) → k < j → Contains c.args.other.now (get_or xs k d) → ⊥) all c.loop-path.invariant in
    let gone = rw c.as_slice-path-items.ensures at none in
    (λ bad. absurd (false≢true bad), λ h. absurd (gone h.0 h.1 h.2 (subst (λ (p : Names). Contains c.args.other.now p) (sym h.3) h.4)))
