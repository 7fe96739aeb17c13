use Rattle.table_files.proofs.Listing.{are_entries, opened_listed}
use Rattle.table_files.proofs.files.Files.is_open.Goals as goal

pub returns-clause-opened : goal.returns-clause-opened
returns-clause-opened c = opened_listed c.self.inside.files c.self.inside.counts c.self.inside.last c.self.inside.room c.args.self.now c.args.number c.openings_of.result c.self.invariant c.self.view_is c.openings_of.ensures

pub returns-clause-law : goal.returns-clause-law
returns-clause-law c = are_entries c.self.inside.files c.self.inside.counts c.self.inside.last c.self.inside.room c.args.self.now c.self.invariant c.self.view_is
