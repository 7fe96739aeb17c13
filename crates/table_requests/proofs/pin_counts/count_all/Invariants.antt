use Rattle.std.proofs.Common.{ℕ, ◌+◌, take}
use Rattle.table_requests.specs.PinCounts.{times, AreCounted}
use Rattle.table_requests.proofs.pin_counts.count_all.Given as goal

abbrev pub invariant-loop-number : goal.invariant-loop-number
invariant-loop-number l = (total : ℕ → ℕ) → AreCounted l.fn.counts total → AreCounted l.counts (λ n. total n + times n (take l.number-index l.numbers))
