use Rattle.std.proofs.Common.{◌≡◌, ◌≤◌, ◌*◌, ◌-◌, ◌^◌, take}
use Rattle.std.specs.Prelude.{sum_by}
use Rattle.ledger.specs.Sums.{carried_by}
use Rattle.table_image.proofs.lawful.births.carried_in_all.Given as goal

abbrev pub invariant-loop-posting : goal.invariant-loop-posting
invariant-loop-posting l = record {
  sum : l.left ≡ sum_by carried_by (take l.posting-index l.postings);
  small : l.left ≤ l.posting-index * (2 ^ 64 - 1);
}
