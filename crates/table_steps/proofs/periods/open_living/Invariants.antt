use Rattle.std.proofs.Common.{◌≡◌, ◌≤◌, ◌+◌, ◌-◌, ◌^◌, length, map}
use Rattle.tree.specs.Places.{at_in}
use Rattle.table_steps.specs.Living.{AreLivingUpTo, life_of, opening_at}
use Rattle.table_steps.proofs.periods.open_living.Given as goal

abbrev pub invariant-loop-alive : goal.invariant-loop-alive
invariant-loop-alive l = record {
  listed : AreLivingUpTo (at_in l.tree) l.number (map life_of l.next.made.last);
  opened : l.next.made.last ≡ map (opening_at (at_in l.tree)) (map life_of l.next.made.last);
  closed : l.next.made ≡ record l.fn.next.made { last = l.next.made.last };
  room : l.next.room + length l.next.made.last ≡ l.fn.next.room;
  rest : l.next ≡ record l.fn.next { made = l.next.made; room = l.next.room };
  first : 1 ≤ l.number;
}

abbrev pub decreases-loop-alive : goal.decreases-loop-alive
decreases-loop-alive l = 2 ^ 64 - l.number
