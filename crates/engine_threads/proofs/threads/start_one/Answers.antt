use denote.Param.{param}
use denote.Param.Send.{IsSend, IsSync, sendable}
use Rattle.engine_threads.proofs.Crossing.{common_sync, role_send}
use Rattle.engine_threads.proofs.threads.start_one.Goals as goal

pub spawn-requires-send-F : goal.spawn-requires-send-F
spawn-requires-send-F g c κs within =
    let b = c.type_bounds in
    let H = param 1 g.row.H in
    let T = param 2 g.row.T in
    let N = param 3 g.row.N in
    let I = param 4 g.row.I in
    let O = param 5 g.row.O in
    let C = param 6 g.row.C in
    let S = param 7 g.row.S in
    let h : IsSync H = search sendable in
    let s : IsSend T = search sendable in
    let y : IsSync T = search sendable in
    let n : IsSend N = search sendable in
    let d : IsSend I = search sendable in
    let e : IsSend O = search sendable in
    let f : IsSend C = search sendable in
    let m : IsSend S = search sendable in
    let common = common_sync H T N I O S g.N.Opening g.I.LinkIn g.O.LinkOut g.S.Source g.S.Sink g.T.Ledgers h s y n d e m in
    let role = role_send T N C S g.N.Opening g.C.Calls g.S.Workers g.T.Ledgers s y n f m in
    search sendable depth 20

pub spawn-requires-send-T : goal.spawn-requires-send-T
spawn-requires-send-T g c κs within =
    let b = c.type_bounds in
    let T = param 2 g.row.T in
    let N = param 3 g.row.N in
    let C = param 6 g.row.C in
    let S = param 7 g.row.S in
    let s : IsSend T = search sendable in
    let y : IsSync T = search sendable in
    let n : IsSend N = search sendable in
    let f : IsSend C = search sendable in
    let m : IsSend S = search sendable in
    let role = role_send T N C S g.N.Opening g.C.Calls g.S.Workers g.T.Ledgers s y n f m in
    search sendable depth 20
