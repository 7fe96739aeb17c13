use Rattle.std.proofs.Common.{arith}
use Rattle.table_files.proofs.Keeping.{filed_reserved}
use Rattle.table_files.proofs.Listing.{are_entries, are_entries_kept}
use Rattle.table_files.proofs.files.Files.reserve.Goals as goal

pub returns-then-n-self-clause-law : goal.returns-then-n-self-clause-law
returns-then-n-self-clause-law c = are_entries c.self.inside.files c.self.inside.counts c.self.inside.last c.self.inside.room c.args.self.now c.self.invariant c.self.view_is

pub returns-in_err-reserve-clause-law : goal.returns-in_err-reserve-clause-law
returns-in_err-reserve-clause-law c = are_entries_kept c.reserve.new.self c.self.inside.last c.self.inside.room (rw c.reserve.ensures.items c.self.invariant.numbered)

pub invariant_of-self-in_err-make_room : goal.invariant_of-self-in_err-make_room
invariant_of-self-in_err-make_room c =
    let old = c.self.invariant in
    filed_reserved c.self.inside.files c.reserve.new.self c.self.inside.counts c.make_room.new.counts c.self.inside.last c.self.inside.room old c.self.inside.room c.reserve.ensures.items c.reserve.ensures.len c.make_room.ensures.same c.make_room.ensures.nodes (omega (arith, old.fits, c.reserve.ensures.len, c.reserve.ensures.capacity)) (omega (arith, old.places, c.reserve.ensures.len, c.make_room.ensures.places))

pub returns-in_err-make_room-clause-law : goal.returns-in_err-make_room-clause-law
returns-in_err-make_room-clause-law c = are_entries_kept c.reserve.new.self c.self.inside.last c.self.inside.room (rw c.reserve.ensures.items c.self.invariant.numbered)

pub returns-clause-law : goal.returns-clause-law
returns-clause-law c = are_entries_kept c.reserve.new.self c.self.inside.last c.args.n (rw c.reserve.ensures.items c.self.invariant.numbered)
