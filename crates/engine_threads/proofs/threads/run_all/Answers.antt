use denote.Param.Send.{sendable}
use Rattle.engine_threads.proofs.threads.run_all.Goals as goal

pub scoped-requires : goal.scoped-requires
scoped-requires g c =
    let b = c.type_bounds in
    let r = c.requires in
    record { at = λ a. (b.static-H, (b.static-T, (b.static-N, (b.static-I, (b.static-O, (b.static-C, (b.static-S, ((r.room, r.empty, r.room_at_end, r.none_ended), (search sendable, search sendable, search sendable, search sendable, search sendable, search sendable, search sendable, search sendable, search sendable, search sendable))))))))) }
