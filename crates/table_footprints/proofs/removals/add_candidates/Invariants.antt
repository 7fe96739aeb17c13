use Rattle.std.proofs.Common.{◌+◌, ◌≤◌, ◌++◌, length, take}
use Rattle.tree.specs.Places.{at_in}
use Rattle.table_footprints.specs.Removals.{IsGathered, going_locations}
use Rattle.table_footprints.specs.Footprints.{names_under}
use Rattle.table_footprints.proofs.removals.add_candidates.Given as goal

abbrev pub invariant-loop-other : goal.invariant-loop-other
invariant-loop-other l = record {
  gathered : IsGathered (at_in l.tree) (going_locations l.gone) (going_locations l.gone ++ names_under l.gone.parent (take l.other-index l.beside)) l.gathering;
  room : length l.beside ≤ l.gathering.pins.room + l.other-index;
}
