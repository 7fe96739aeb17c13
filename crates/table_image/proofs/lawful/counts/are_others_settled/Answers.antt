use Rattle.std.proofs.Common.{arith}
use Rattle.table_image.specs.Parts.{after_closed}
use Rattle.table_image.proofs.Balance.{settled_by_sums}
use Rattle.table_image.proofs.lawful.counts.are_others_settled.Goals as goal

pub returns : goal.returns
returns c =
    let sums = settled_by_sums c.args.nodes.now (after_closed c.args.kept.now c.args.postings.now) c.requires.distinct c.requires.never_negative c.requires.exact in (
      λ yes. let total = c.add_up_to.ensures.0 yes in sums.0 (omega (arith, total, c.count_in_all.ensures)),
      λ settled. let all = sums.1 settled in c.add_up_to.ensures.1 (omega (arith, all, c.count_in_all.ensures)),
    )
