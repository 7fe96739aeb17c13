use Rattle.std.proofs.Common.{◌-◌, ◌++◌, take, drop, refl, subst}
use Rattle.engine.specs.Links.{heard}
use Rattle.engine_streams.specs.Device.{OnDevice, Receives}
use Rattle.engine_streams.proofs.Devices.{failed_so, keeps_none}
use Rattle.engine_streams.proofs.device_link.DeviceLinkLinkIn.receive.Goals as goal

pub returns-in-Err-clause-brought : goal.returns-in-Err-clause-brought
returns-in-Err-clause-brought g c =
    let s = c.self.inside in
    let none = keeps_none s.frame.items s.from s.until c.if-self.false in
    let old : OnDevice g.row.R.Denot g.row.W.Denot = record { requests = s.requests; replies = s.replies; kept = take (s.until - s.from) (drop s.from s.frame.items); failures = s.failures } in
    let mid : OnDevice g.row.R.Denot g.row.W.Denot = record old { requests = c.read_again.new.requests } in
    let room = c.read_again.new.room ++ drop 69632 c.args.room.now in
    subst (λ (l : OnDevice g.row.R.Denot g.row.W.Denot). Receives g.R.ReadRequest.gives l (heard c.failed.result room) c.failed.new.self) c.self.view_is
    (failed_so g.R.ReadRequest.gives old mid c.failed.new.self c.in-Err.fault c.failed.result room none c.in-Err.ensures.reads refl c.failed.ensures)
