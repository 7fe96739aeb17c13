use Rattle.table_files.proofs.Listing.{openings_listed}
use Rattle.table_files.proofs.files.Files.openings.Goals as goal

pub returns : goal.returns
returns c = openings_listed c.self.inside.files c.self.inside.counts c.self.inside.last c.self.inside.room c.args.self.now c.args.number c.openings_of.result c.self.invariant c.self.view_is c.openings_of.ensures
