use Rattle.std.proofs.Common.{◌+◌, ◌*◌, ◌≤◌, length, take}
use Rattle.tree.specs.Places.{at_in}
use Rattle.table_footprints.specs.Pages.{IsPage}
use Rattle.table_footprints.specs.Footprints.{page_names}
use Rattle.table_footprints.proofs.pages.page_draft.Given as goal

abbrev pub invariant-loop-name : goal.invariant-loop-name
invariant-loop-name l = record {
  page : IsPage (at_in l.tree) l.folder (page_names l.folder (take l.name-index l.names)) l.gathering;
  room : 2 * length l.names ≤ l.gathering.pins.room + l.name-index;
}
