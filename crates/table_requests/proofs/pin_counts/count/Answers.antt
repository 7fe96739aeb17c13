use Rattle.std.proofs.Common.{◌∙◌, arith, rules}
use Rattle.table_requests.proofs.PinCounting.{loosened}
use Rattle.table_requests.proofs.pin_counts.count.Goals as goal

pub returns-then-not-raise : goal.returns-then-not-raise
returns-then-not-raise c =
    let same = c.raise.ensures.same (search rules) ∙ c.note.ensures.same in
    record {
      counted = λ total counted. loosened c.args.counts.now _ c.args.number total same (λ within. omega (arith, within, c.saturating_add-counts.ensures, c.raise.ensures.loose, c.note.ensures.loose)) counted;
    }
