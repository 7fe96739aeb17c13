use Rattle.std.proofs.Common.{◌≡◌, ◌≤◌, ◌-◌, ◌*◌, ◌^◌, drop, length}
use Rattle.ledger.proofs.Balances.{entered_in, given_in}
use Rattle.table_image.proofs.lawful.postings.count.Given as goal

abbrev pub invariant-loop-k : goal.invariant-loop-k
invariant-loop-k l = record {
  entered : l.entries ≡ entered_in l.number l.generation (drop l.k l.postings);
  gone : l.gone ≡ given_in l.number l.generation (drop l.k l.postings);
  few_entered : l.entries ≤ (length l.postings - l.k) * (2 ^ 64 - 1);
  few_gone : l.gone ≤ (length l.postings - l.k) * (2 ^ 64 - 1);
}
