use Rattle.std.proofs.Common.{◌+◌}
use Rattle.table_files.proofs.Keeping.{filed_closed}
use Rattle.table_files.proofs.Listing.{are_entries, are_entries_kept}
use Rattle.table_files.proofs.Stepping.{IsNumbered-remove, closed_listed, file_closed}
use Rattle.table_files.proofs.files.Files.close.Goals as goal

pub returns-in_err-i-clause-law : goal.returns-in_err-i-clause-law
returns-in_err-i-clause-law c = are_entries c.self.inside.files c.self.inside.counts c.self.inside.last c.self.inside.room c.args.self.now c.self.invariant c.self.view_is

pub invariant_of-self : goal.invariant_of-self
invariant_of-self c =
    let within = rw c.deref.ensures.value at c.in_ok-i.ensures.within in
    filed_closed c.self.inside.files c.remove-filed.new.self c.self.inside.counts c.lower.new.counts c.self.inside.last c.self.inside.room c.self.invariant c.in_ok-i.i c.remove-filed.result within c.remove-filed.ensures.value c.remove-filed.ensures.items c.remove-filed.ensures.len c.remove-filed.ensures.capacity c.lower.ensures.lowered c.lower.ensures.total c.lower.ensures.places

pub returns-clause-file : goal.returns-clause-file
returns-clause-file c =
    let found = rw c.deref.ensures.value at c.in_ok-i.ensures.found in
    let within = rw c.deref.ensures.value at c.in_ok-i.ensures.within in
    file_closed c.self.inside.files c.self.inside.last c.self.inside.room c.args.self.now c.in_ok-i.i c.args.handle c.self.invariant.numbered c.self.view_is within found c.remove-filed.result c.remove-filed.ensures.value

pub returns-clause-new_is : goal.returns-clause-new_is
returns-clause-new_is c =
    let found = rw c.deref.ensures.value at c.in_ok-i.ensures.found in
    let within = rw c.deref.ensures.value at c.in_ok-i.ensures.within in
    closed_listed c.self.inside.files c.self.inside.last c.self.inside.room c.args.self.now c.in_ok-i.i c.args.handle c.self.invariant.numbered c.self.view_is within found c.remove-filed.new.self c.remove-filed.ensures.items

pub returns-clause-law : goal.returns-clause-law
returns-clause-law c =
    let found = rw c.deref.ensures.value at c.in_ok-i.ensures.found in
    let within = rw c.deref.ensures.value at c.in_ok-i.ensures.within in
    are_entries_kept c.remove-filed.new.self c.self.inside.last (c.self.inside.room + 1) (rw c.remove-filed.ensures.items (IsNumbered-remove c.self.inside.files.items c.self.inside.last c.in_ok-i.i c.args.handle c.self.invariant.numbered within found))
