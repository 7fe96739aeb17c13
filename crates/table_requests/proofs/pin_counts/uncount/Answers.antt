use Rattle.std.proofs.Common.{arith}
use Rattle.table_requests.proofs.PinCounting.{tightened}
use Rattle.table_requests.proofs.pin_counts.uncount.Goals as goal

pub returns-then-counts-lt18446744073709551615 : goal.returns-then-counts-lt18446744073709551615
returns-then-counts-lt18446744073709551615 c = record {
  counted = λ total counted some. tightened c.args.counts.now _ c.args.number total (c.lower.ensures.same c.if-lower.false) (c.lower.ensures.none c.if-lower.false) some (λ within. (omega (arith, c.if-counts-lt18446744073709551615.true, c.lower.ensures.loose), omega (arith, c.lower.ensures.loose))) counted;
}

pub returns-else-counts-lt18446744073709551615 : goal.returns-else-counts-lt18446744073709551615
returns-else-counts-lt18446744073709551615 c = record {
  counted = λ total counted some. tightened c.args.counts.now _ c.args.number total (c.lower.ensures.same c.if-lower.false) (c.lower.ensures.none c.if-lower.false) some (λ within. absurd (omega (arith, within, c.if-counts-lt18446744073709551615.false))) counted;
}
