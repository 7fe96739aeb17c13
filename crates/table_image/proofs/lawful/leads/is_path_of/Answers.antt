use Rattle.std.proofs.Common.{ℕ, ◌-◌, ◌≡◌, ◌≢◌, [], None, Some, get_or, rules, arith, sym, ◌∙◌, subst}
use Rattle.std.proofs.lemmas.Bool.{eqb-true, eq-eqb}
use Rattle.std.proofs.lemmas.Option.{none-some}
use Rattle.paths.specs.Prefixes.{Name, Names}
use Rattle.tree.specs.Places.{IsNamed, IsPathOf}
use Rattle.tree.specs.Listed.{node_at}
use Rattle.tree.proofs.Climbing.{place_same, named_same}
use Rattle.table_image.proofs.Leading.{IsFollowed-start, IsFollowed-up, unfollowed, followed}
use Rattle.table_image.proofs.lawful.leads.is_path_of.Goals as goal

pub loop-k-init : goal.loop-k-init
loop-k-init c = IsFollowed-start (node_at c.args.nodes.now) c.args.number c.names-names.result.now

pub returns-in_default : goal.returns-in_default
returns-in_default c =
    let at = node_at c.args.nodes.now in
    let names = c.names-names.result.now in
    let none : at c.loop-k.current ≡ None = search rules in (
      λ yes. absurd (search rules),
      λ h. absurd (unfollowed at c.args.number c.loop-k.current names c.loop-k.k [] c.loop-k-test.true c.loop-k.auto.k (λ p named. none-some named.0 (sym none ∙ named.1)) c.loop-k.invariant
          (subst (λ (q : Names). IsPathOf at c.args.number q) (sym c.names-names.ensures) h)),
    )

pub returns-in_default-place : goal.returns-in_default-place
returns-in_default-place c =
    let at = node_at c.args.nodes.now in
    let names = c.names-names.result.now in
    let x = c.in-Some.node.now in
    let here : at c.loop-k.current ≡ Some x = search rules in
    let unnamed : (p : ℕ) (name : Name) → IsNamed at c.loop-k.current p name → ⊥ = λ p name h. c.in_default-place.not-Named (record { parent = p; name = name }) (place_same at c.loop-k.current x h.0 here h.1 ∙ h.2) in (
      λ yes. absurd (search rules),
      λ h. absurd (unfollowed at c.args.number c.loop-k.current names c.loop-k.k [] c.loop-k-test.true c.loop-k.auto.k (λ p named. unnamed p (get_or names (c.loop-k.k - 1) []) named) c.loop-k.invariant
          (subst (λ (q : Names). IsPathOf at c.args.number q) (sym c.names-names.ensures) h)),
    )

pub returns-then-not-is : goal.returns-then-not-is
returns-then-not-is c =
    let at = node_at c.args.nodes.now in
    let names = c.names-names.result.now in
    let x = c.in-Some.node.now in
    let key = c.in-Named.key in
    let y = c.index-names-k.result in
    let here : at c.loop-k.current ≡ Some x = search rules in
    let named : IsNamed at c.loop-k.current key.parent key.name = (x, here, c.in-Named.is) in
    let other : key.name ≢ y = search rules in (
      λ yes. absurd (search rules),
      λ h. absurd (unfollowed at c.args.number c.loop-k.current names c.loop-k.k y c.loop-k-test.true c.loop-k.auto.k
          (λ p also. other ((named_same at c.loop-k.current key.parent p key.name (get_or names (c.loop-k.k - 1) y) named also).1 ∙ sym c.index-names-k.is)) c.loop-k.invariant
          (subst (λ (q : Names). IsPathOf at c.args.number q) (sym c.names-names.ensures) h)),
    )

pub loop-k-preserved : goal.loop-k-preserved
loop-k-preserved c =
    let at = node_at c.args.nodes.now in
    let names = c.names-names.result.now in
    let x = c.in-Some.node.now in
    let key = c.in-Named.key in
    let y = c.index-names-k.result in
    let here : at c.loop-k.current ≡ Some x = search rules in
    let same : key.name ≡ y = search rules in
    let named : IsNamed at c.loop-k.current key.parent key.name = (x, here, c.in-Named.is) in
    IsFollowed-up at c.args.number c.loop-k.current key.parent names c.loop-k.k y c.loop-k-test.true c.loop-k.auto.k c.index-names-k.is
    (subst (λ (n : Name). IsNamed at c.loop-k.current key.parent n) same named) c.loop-k.invariant

pub returns : goal.returns
returns c =
    let at = node_at c.args.nodes.now in
    let none : c.loop-k.k ≡ 0 = omega arith in
    let it = followed at c.args.number c.loop-k.current c.names-names.result.now c.loop-k.k none c.loop-k.invariant in (
      λ yes. subst (λ (q : Names). IsPathOf at c.args.number q) c.names-names.ensures (it.0 (eqb-true c.loop-k.current 1 yes)),
      λ h. eq-eqb c.loop-k.current 1 (it.1 (subst (λ (q : Names). IsPathOf at c.args.number q) (sym c.names-names.ensures) h)),
    )
