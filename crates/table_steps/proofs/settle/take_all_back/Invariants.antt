use Rattle.std.proofs.Common.{◌≡◌, ◌≤◌, ◌+◌, ◌⊎◌, drop, length}
use Rattle.tree.specs.Places.{at_in}
use Rattle.table_steps.specs.Keeping.{kept_by}
use Rattle.table_steps.specs.Sweeping.{IsNearly, IsTakenBack}
use Rattle.table_steps.proofs.Backs.{Continues}
use Rattle.table_steps.proofs.settle.take_all_back.Given as goal

abbrev pub invariant-loop-i : goal.invariant-loop-i
invariant-loop-i l = record {
  counts : l.counts ≡ l.tree.counts;
  nearly : IsNearly (at_in l.tree) l.ledger.made (kept_by l.keepers.flights.now l.keepers.files.now) l.pins;
  back : Continues (at_in l.fn.tree) l.fn.ledger.made (drop l.from l.pins) (at_in l.tree) l.ledger.made (drop l.i l.pins);
  rest : IsTakenBack l.fn.tree l.fn.ledger l.tree l.ledger;
  room : (l.tree.counts ≤ l.ledger.room) ⊎ (length l.pins ≤ l.ledger.room + l.i);
}
