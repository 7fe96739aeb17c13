use Rattle.std.proofs.Common.{◌+◌, ◌≡◌, ◌≤◌, length, take}
use Rattle.table_steps.specs.Ending.{keys_in}
use Rattle.table_steps.proofs.Ends.{nothing_for}
use Rattle.table_steps.proofs.give.give_none.Given as goal

abbrev pub invariant-loop-next : goal.invariant-loop-next
invariant-loop-next l = record {
  given : l.given.items ≡ nothing_for (take l.next (keys_in l.entries));
  room : length (keys_in l.entries) ≤ l.given.room + l.next;
}
