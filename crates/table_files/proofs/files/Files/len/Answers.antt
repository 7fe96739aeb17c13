use Rattle.table_files.proofs.Listing.{are_entries}
use Rattle.table_files.proofs.files.Files.len.Goals as goal

pub returns-clause-law : goal.returns-clause-law
returns-clause-law c = are_entries c.self.inside.files c.self.inside.counts c.self.inside.last c.self.inside.room c.args.self.now c.self.invariant c.self.view_is
