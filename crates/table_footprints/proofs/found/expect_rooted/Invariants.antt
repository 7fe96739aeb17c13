use Rattle.std.proofs.Common.{◌<◌, take}
use Rattle.tree.specs.Places.{IsCensus, IsTree, at_in}
use Rattle.table_footprints.specs.Gatherings.{AreRooted, told}
use Rattle.table_footprints.proofs.found.expect_rooted.Given as goal

abbrev pub invariant-loop-location : goal.invariant-loop-location
invariant-loop-location l = record {
  rooted : AreRooted (at_in l.tree) (told (take l.location-index l.locations));
  census : 0 < l.location-index → IsCensus (at_in l.tree) l.tree.living l.tree.counts;
  tree : 0 < l.location-index → IsTree (at_in l.tree);
}
