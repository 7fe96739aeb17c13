use Rattle.std.proofs.Common.{refl}
use Rattle.table_steps.proofs.Reserving.{room_kept}
use Rattle.table_steps.proofs.state.State.reserve.Goals as goal

pub returns-clause-kept : goal.returns-clause-kept
returns-clause-kept c = room_kept c.args.self.now c.requires.kept c.reserve.new.self c.reserve-2.new.self c.reserve-4.new.self
    c.reserve.ensures.rest c.reserve.ensures.kept c.reserve-2.ensures.made c.reserve-2.ensures.limit c.reserve-2.ensures.room c.reserve-2.ensures.places c.reserve-4.ensures.same c.reserve-4.ensures.law
    c.reserve-3.new.self c.reserve-3.ensures.same c.reserve-3.ensures.room c.reserve-3.ensures.law

pub returns-then-is_err-3-clause-kept : goal.returns-then-is_err-3-clause-kept
returns-then-is_err-3-clause-kept c =
    room_kept c.args.self.now c.requires.kept c.reserve.new.self c.reserve-2.new.self c.args.self.now.flights
    c.reserve.ensures.rest c.reserve.ensures.kept c.reserve-2.ensures.made c.reserve-2.ensures.limit c.reserve-2.ensures.room c.reserve-2.ensures.places refl c.requires.kept.flying
    c.reserve-3.new.self c.reserve-3.ensures.same c.reserve-3.ensures.room c.reserve-3.ensures.law
