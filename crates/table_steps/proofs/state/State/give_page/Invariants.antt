use Rattle.std.proofs.Common.{◌≡◌, ◌≤◌, ◌++◌, Some, length, take}
use Rattle.std.specs.Vec.Iter.{into_iter_items, into_iter_len}
use Rattle.table_requests.specs.declared.data.RequestInFlight.{RequestInFlight as Recorded}
use Rattle.table_requests.specs.Listed.{requests_of}
use Rattle.tree.specs.Places.{IsPathOf, at_in}
use Rattle.table_footprints.specs.Footprints.{page_keys}
use Rattle.table_steps.specs.Ending.{GivesAll, MayFill}
use Rattle.table_steps.specs.Kept.{IsKept, flight_of, world_of}
use Rattle.table_steps.proofs.state.State.give_page.Given as goal

abbrev pub invariant-loop-name : goal.invariant-loop-name
invariant-loop-name l = record {
  names : l.fn.page.names ≡ l.yielded ++ into_iter_items l.name-iterator;
  copies : into_iter_items l.copies ≡ into_iter_items l.name-iterator;
  left : length (into_iter_items l.name-iterator) ≡ into_iter_len l.name-iterator;
  same : into_iter_len l.copies ≡ into_iter_len l.name-iterator;
  count : l.i ≡ length l.yielded;
  kept : IsKept l.self;
  may : MayFill l.self l.id (page_keys l.parent (into_iter_items l.name-iterator));
  leads : IsPathOf (at_in l.self.tree) l.parent l.folder;
  gives : (f : Recorded) → (requests_of l.fn.self.flights).at l.id ≡ Some f → GivesAll (world_of l.fn.self) l.id (flight_of f) (page_keys l.parent l.yielded) (take l.i l.found) l.given.items (world_of l.self);
  room : length (into_iter_items l.name-iterator) ≤ l.given.room;
}
