use Rattle.std.proofs.Common.{◌+◌, ◌*◌, ◌≤◌, take}
use Rattle.tree.specs.Places.{at_in}
use Rattle.table_footprints.specs.Gatherings.{IsGathering, told}
use Rattle.table_footprints.proofs.gatherings.gather.Given as goal

abbrev pub invariant-loop-location : goal.invariant-loop-location
invariant-loop-location l = record {
  gathering : IsGathering (at_in l.tree) l.hold (told (take l.location-index l.locations)) l.gathering;
  room : l.initial.gathering.pins.room ≤ l.gathering.pins.room + 2 * l.location-index;
}
