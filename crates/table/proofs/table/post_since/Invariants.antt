use Rattle.std.proofs.Common.{◌≡◌, ◌+◌, take, drop}
use Rattle.ledger.specs.Shares.{plus}
use Rattle.ledger.specs.Periods.{up_to}
use Rattle.ledger.specs.Sums.{totals_of, totals_over}
use Rattle.table.proofs.table.post_since.Given as goal

abbrev pub invariant-loop-posting : goal.invariant-loop-posting
invariant-loop-posting g l = record {
  items : l.posting-items ≡ drop l.made l.ledger.made.last;
  book : l.book ≡ totals_over (up_to (l.made + l.posting-index) l.ledger.made);
  share : l.share ≡ record l.fn.share { totals = plus l.fn.share.totals (totals_of (take l.posting-index (drop l.made l.ledger.made.last))) };
}
