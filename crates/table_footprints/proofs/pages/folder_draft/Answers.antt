use Rattle.std.proofs.Common.{◌+◌, ◌*◌}
use Rattle.tree.specs.Places.{at_in}
use Rattle.table_footprints.proofs.Paging.{page_start}
use Rattle.table_footprints.proofs.pages.folder_draft.Goals as goal

pub returns-clause-ok : goal.returns-clause-ok
returns-clause-ok c =
    page_start (at_in c.args.tree.now) c.requires.tree c.args.folder (2 * c.args.names + 2) c.in_ok-gathering.gathering c.add.new.self c.in_ok-found.found c.in_ok-gathering.ensures c.in_ok-found.ensures.ok c.in_ok-add.ensures
