use Rattle.std.proofs.Common.{◌+◌, ◌<◌, ◌≡◌, ◌↔◌, All, IsTrue, List, length, drop, rules, arith, subst}
use Rattle.tree.specs.declared.nodes.Node.{Node}
use Rattle.table_image.specs.Parts.{StandApart}
use Rattle.table_image.proofs.Listed.{names_apart, stand_apart}
use Rattle.table_image.proofs.Pairs.{slice_from, pairs_below-none, pairs_below-more, pairs_below-all, pairs_after}
use Rattle.table_image.proofs.lawful.nodes.are_names_apart.Goals as goal

pub loop-i-init : goal.loop-i-init
loop-i-init c = pairs_below-none StandApart c.args.nodes.now

pub returns-then-not-stands_apart : goal.returns-then-not-stands_apart
returns-then-not-stands_apart c =
    let xs = c.args.nodes.now in
    let x = c.index-nodes-i.result in
    let within : c.loop-i.i < length xs = omega arith in
    let test : IsTrue c.stands_apart.result ↔ All (StandApart x) (drop (c.loop-i.i + 1) xs) = subst (λ (ys : List Node). IsTrue c.stands_apart.result ↔ All (StandApart x) ys) (slice_from xs (c.loop-i.i + 1)) c.stands_apart.ensures in (
      λ yes. absurd (search rules),
      λ apart.
          let yes : IsTrue c.stands_apart.result = test.1 (pairs_after StandApart xs c.loop-i.i x within c.index-nodes-i.is (stand_apart xs c.requires apart)) in
          absurd (search rules),
    )

pub loop-i-preserved : goal.loop-i-preserved
loop-i-preserved c =
    let xs = c.args.nodes.now in
    let x = c.index-nodes-i.result in
    let within : c.loop-i.i < length xs = omega arith in
    let test : IsTrue c.stands_apart.result ↔ All (StandApart x) (drop (c.loop-i.i + 1) xs) = subst (λ (ys : List Node). IsTrue c.stands_apart.result ↔ All (StandApart x) ys) (slice_from xs (c.loop-i.i + 1)) c.stands_apart.ensures in
    pairs_below-more StandApart xs c.loop-i.i x within c.index-nodes-i.is (test.0 (search rules)) c.loop-i.invariant

pub returns : goal.returns
returns c =
    let all : c.loop-i.i ≡ length c.args.nodes.now = omega arith in
    (λ yes. names_apart c.args.nodes.now (pairs_below-all StandApart c.args.nodes.now c.loop-i.i all c.loop-i.invariant), λ law. search rules)
