use Rattle.std.proofs.Common.{◌+◌, ◌-◌, ◌<◌, ap}
use Rattle.table_files.specs.OpenEntry.{Filing, files_of}
use Rattle.table_files.proofs.Keeping.{filed_opened}
use Rattle.table_files.proofs.Listing.{are_entries_kept}
use Rattle.table_files.proofs.Stepping.{IsNumbered-push, opened_listed}
use Rattle.table_files.proofs.files.Files.open.Goals as goal

pub invariant_of-self : goal.invariant_of-self
unfolding files_of
invariant_of-self c =
    let some : 0 < c.self.inside.room = rw (ap (λ (a : Filing). (files_of a).room) c.self.view_is) c.requires.room in
    filed_opened c.self.inside.files c.push_reserved.new.self c.self.inside.counts c.raise.new.counts c.self.inside.last c.self.inside.room c.self.invariant c.args.file some c.push_reserved.ensures.items c.push_reserved.ensures.len c.push_reserved.ensures.capacity c.raise.ensures.raised c.raise.ensures.total c.raise.ensures.places

pub returns-clause-new_is : goal.returns-clause-new_is
returns-clause-new_is c =
    opened_listed c.self.inside.files c.push_reserved.new.self c.self.inside.last c.self.inside.room c.args.self.now c.args.file c.self.invariant.numbered c.self.view_is c.push_reserved.ensures.items

pub returns-clause-law : goal.returns-clause-law
returns-clause-law c = are_entries_kept c.push_reserved.new.self (c.self.inside.last + 1) (c.self.inside.room - 1) (rw c.push_reserved.ensures.items (IsNumbered-push c.self.inside.files.items c.self.inside.last c.args.file c.self.invariant.numbered))
