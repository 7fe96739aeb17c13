use Rattle.std.proofs.Common.{ℕ, ◌≡◌, None, Some, length, rules, arith, sym, ◌∙◌}
use Rattle.std.proofs.lemmas.Option.{none-some}
use Rattle.paths.specs.Prefixes.{Name, Names}
use Rattle.tree.specs.Places.{IsNamed}
use Rattle.tree.specs.Listed.{node_at}
use Rattle.tree.proofs.Climbing.{place_same, climbs_short}
use Rattle.tree.proofs.Stepping.{IsStepped-start, IsStepped-up, met, stuck, too_far}
use Rattle.table_image.proofs.lawful.nodes.leads_to_root.Goals as goal

pub returns-in_default : goal.returns-in_default
returns-in_default c =
    let at = node_at c.args.nodes.now in
    let none : at c.loop-step.current ≡ None = search rules in
    (λ yes. absurd (search rules), λ lead. absurd (stuck at 1 c.args.number c.loop-step.current c.loop-step._step c.if-current-eq1.false (λ p name h. none-some h.0 (sym none ∙ h.1)) c.loop-step.invariant lead))

pub returns-in_default-place : goal.returns-in_default-place
returns-in_default-place c =
    let at = node_at c.args.nodes.now in
    let x = c.in-Some.node.now in
    let here : at c.loop-step.current ≡ Some x = search rules in
    let unnamed : (p : ℕ) (name : Name) → IsNamed at c.loop-step.current p name → ⊥ = λ p name h. c.in_default-place.not-Named (record { parent = p; name = name }) (place_same at c.loop-step.current x h.0 here h.1 ∙ h.2) in
    (λ yes. absurd (search rules), λ lead. absurd (stuck at 1 c.args.number c.loop-step.current c.loop-step._step c.if-current-eq1.false unnamed c.loop-step.invariant lead))

pub loop-step-preserved : goal.loop-step-preserved
loop-step-preserved c =
    let at = node_at c.args.nodes.now in
    let here : at c.loop-step.current ≡ Some c.in-Some.node.now = search rules in
    IsStepped-up at 1 c.args.number c.loop-step.current c.loop-step._step c.in-Named.key.parent c.if-current-eq1.false (c.in-Named.key.name, (c.in-Some.node.now, here, c.in-Named.is)) c.loop-step.invariant

pub returns : goal.returns
returns c =
    let xs = c.args.nodes.now in
    let short = λ (way : Names). climbs_short way xs c.args.number c.requires.distinct c.requires.rooted in
    (λ yes. absurd (search rules), λ lead. absurd (too_far (node_at xs) 1 c.args.number c.loop-step.current c.loop-step._step (length xs) short (omega arith) c.loop-step.invariant lead))

pub loop-step-init : goal.loop-step-init
loop-step-init c = IsStepped-start (node_at c.args.nodes.now) 1 c.args.number

pub returns-then-current-eq1 : goal.returns-then-current-eq1
returns-then-current-eq1 c =
    (λ yes. met (node_at c.args.nodes.now) 1 c.args.number c.loop-step.current c.loop-step._step c.if-current-eq1.true c.loop-step.invariant, λ lead. search rules)
