use Rattle.table_files.proofs.Listing.{are_entries}
use Rattle.table_files.proofs.Stepping.{file_closed}
use Rattle.table_files.proofs.files.Files.get.Goals as goal

pub returns-in_err-i-clause-law : goal.returns-in_err-i-clause-law
returns-in_err-i-clause-law c = are_entries c.self.inside.files c.self.inside.counts c.self.inside.last c.self.inside.room c.args.self.now c.self.invariant c.self.view_is

pub returns-clause-at : goal.returns-clause-at
returns-clause-at c =
    let found = rw c.deref.ensures.value at c.in_ok-i.ensures.found in
    let within = rw c.deref.ensures.value at c.in_ok-i.ensures.within in
    file_closed c.self.inside.files c.self.inside.last c.self.inside.room c.args.self.now c.in_ok-i.i c.args.handle c.self.invariant.numbered c.self.view_is within found c.index.result.now c.index.ensures

pub returns-clause-law : goal.returns-clause-law
returns-clause-law c = are_entries c.self.inside.files c.self.inside.counts c.self.inside.last c.self.inside.room c.args.self.now c.self.invariant c.self.view_is
