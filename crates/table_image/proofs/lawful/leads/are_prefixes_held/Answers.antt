use Rattle.std.proofs.Common.{◌<◌, length, rules, arith}
use Rattle.table_image.proofs.Leading.{HoldsBelow-none, HoldsBelow-more, HoldsBelow-all, prefix_held}
use Rattle.table_image.proofs.lawful.leads.are_prefixes_held.Goals as goal

pub loop-i-init : goal.loop-i-init
loop-i-init c = HoldsBelow-none c.args.held.now c.args.path.now

pub returns-then-not-is_prefix_held : goal.returns-then-not-is_prefix_held
returns-then-not-is_prefix_held c =
    let within : c.loop-i.i < length c.args.path.now = omega arith in (
      λ yes. absurd (search rules),
      λ all. let held = c.is_prefix_held.ensures.1 (prefix_held c.args.held.now c.args.path.now c.loop-i.i within all) in absurd (search rules),
    )

pub loop-i-preserved : goal.loop-i-preserved
loop-i-preserved c =
    HoldsBelow-more c.args.held.now c.args.path.now c.loop-i.i (c.is_prefix_held.ensures.0 (search rules)) c.loop-i.invariant

pub returns : goal.returns
returns c =
    (λ yes. HoldsBelow-all c.args.held.now c.args.path.now c.loop-i.i (omega arith) c.loop-i.invariant, λ all. search rules)
