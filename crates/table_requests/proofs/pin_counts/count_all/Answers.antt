use Rattle.std.proofs.Common.{◌+◌, ◌<◌, length, get_or, take, arith, rules}
use Rattle.table_requests.specs.PinCounts.{times}
use Rattle.table_requests.proofs.PinCounting.{counts_as, same_totals, times_more}
use Rattle.table_requests.proofs.pin_counts.count_all.Goals as goal

pub loop-number-preserved : goal.loop-number-preserved
loop-number-preserved c total counted =
    let ns = c.args.numbers.now in
    let i = c.loop-number.number-index in
    let within : i < length ns = search rules in
    same_totals c.count.new.counts (λ n. total n + times n (take i ns) + counts_as (get_or ns i 0) n) _ (λ n. let more = times_more ns i 0 n within in omega (arith, more))
    (c.count.ensures.counted (λ n. total n + times n (take i ns)) (c.loop-number.invariant total counted))
