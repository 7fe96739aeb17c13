use Rattle.std.proofs.Common.{◌≡◌, true, sym, ◌∙◌}
use Rattle.ledger.specs.Periods.{Periods}
use Rattle.ledger.specs.Shares.{nothing}
use Rattle.ledger.specs.Sums.{IsCarriedOver}
use Rattle.tree.specs.Listed.{node_at}
use Rattle.table_law.specs.Law.{HasPlainRoot, IsBornInOrder}
use Rattle.table_image.proofs.Ledgers.{ordered_with}
use Rattle.table_image.proofs.lawful.keep_books.Goals as goal
use Rattle.table_image.proofs.lawful.keep_books.Goals.{then-are_carried_over, else-are_carried_over, then-has_plain_root, else-has_plain_root}

pub returns-then-are_born_in_order : goal.returns-then-are_born_in_order
returns-then-are_born_in_order c =
    let at = node_at c.args.nodes.now in
    let ps : Periods = record { births = c.args.kept.now; totals = c.args.closed; last = c.args.postings.now } in
    let born : (c.if-are_carried_over.value ≡ true) × IsBornInOrder at ps = elim c.if-has_plain_root.branch [
      | then-has_plain_root w ↦
          let it = w.are_born_in_order.ensures.0 (sym w.value-is ∙ c.if-are_born_in_order.true) in
          (w.if-has_plain_root.true, record { ordered = ordered_with ps.births nothing ps.totals ps.last it.ordered; generations = it.generations })
      | else-has_plain_root w ↦ absurd (cc)
    ] in
    let root : IsCarriedOver ps × HasPlainRoot at ps = elim c.if-are_carried_over.branch [
      | then-are_carried_over w ↦
          let it = w.has_plain_root.ensures.0 (sym w.value-is ∙ born.0) in
          (c.are_carried_over.ensures.0 w.if-are_carried_over.true, record { plain = it.plain; unposted = it.unposted })
      | else-are_carried_over w ↦ absurd (cc)
    ] in (
      λ yes. let it = c.are_counted.ensures.0 yes in
          record { root = root.1; counted = record { counts = it.counts; others = it.others; never_negative = record { within = it.never_negative.within } }; born = born.1; carried = root.0 },
      λ law. c.are_counted.ensures.1 (record { counts = law.counted.counts; others = law.counted.others; never_negative = record { within = law.counted.never_negative.within } }),
    )
