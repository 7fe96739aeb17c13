use Rattle.std.proofs.Common.{List, ℕ, ◌-◌, ◌<◌, ◌≡◌, length, get_or, take, subst, arith, rules}
use Rattle.std.proofs.lemmas.List.{take_all}
use Rattle.table_requests.specs.PinCounts.{AreCounted, times}
use Rattle.table_requests.proofs.PinCounting.{counts_as, same_totals, times_left, times_more}
use Rattle.table_requests.proofs.pin_counts.uncount_all.Goals as goal

pub uncount-requires : goal.uncount-requires
uncount-requires c =
    let it = c.requires.some in
    let ns = c.args.numbers.now in
    let i = c.loop-number.number-index in
    let within : i < length ns = search rules in
    let left = times_left ns i 0 within in
    let all = it.2 (get_or ns i 0) in
    record { some = (λ n. it.0 n - times n (take i ns), c.loop-number.invariant it.0 it.1 it.2, omega (arith, left, all)) }

pub loop-number-preserved : goal.loop-number-preserved
loop-number-preserved c total counted most =
    let ns = c.args.numbers.now in
    let i = c.loop-number.number-index in
    let within : i < length ns = search rules in
    let left = times_left ns i 0 within in
    let all = most (get_or ns i 0) in
    same_totals c.uncount.new.counts (λ n. total n - times n (take i ns) - counts_as (get_or ns i 0) n) _ (λ n. let more = times_more ns i 0 n within in omega (arith, more))
    (c.uncount.ensures.counted (λ n. total n - times n (take i ns)) (c.loop-number.invariant total counted most) (omega (arith, left, all)))

pub returns : goal.returns
returns c =
    let ns = c.args.numbers.now in
    let whole : take c.loop-number.number-index ns ≡ ns = take_all c.loop-number.number-index ns (omega arith) in
    record {
      counted = λ total counted most. subst (λ (seen : List ℕ). AreCounted c.loop-number.counts (λ n. total n - times n seen)) whole (c.loop-number.invariant total counted most);
    }
