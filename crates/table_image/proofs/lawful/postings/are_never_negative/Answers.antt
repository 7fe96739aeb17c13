use Rattle.std.proofs.Common.{◌<◌, IsTrue, length, rules, arith}
use Rattle.ledger.specs.declared.postings.Posting.TheVariants.{Born}
use Rattle.table_image.specs.Parts.{after_closed}
use Rattle.table_image.proofs.Ledgers.{never_negative_more, allowed_at}
use Rattle.table_image.proofs.lawful.postings.are_never_negative.Goals as goal

pub returns-then-not-is_allowed : goal.returns-then-not-is_allowed
returns-then-not-is_allowed c =
    let within : c.loop-k.k < length c.args.postings.now = omega arith in (
      λ yes. absurd (search rules),
      λ never.
          let yes : IsTrue c.is_allowed.result = c.is_allowed.ensures.1 (allowed_at (after_closed c.args.kept.now c.args.postings.now) c.loop-k.k (Born 0 0) within never) in
          absurd (search rules),
    )

pub loop-k-preserved : goal.loop-k-preserved
loop-k-preserved c =
    let within : c.loop-k.k < length c.args.postings.now = omega arith in
    never_negative_more (after_closed c.args.kept.now c.args.postings.now) c.loop-k.k (Born 0 0) within c.loop-k.invariant (c.is_allowed.ensures.0 (search rules))
