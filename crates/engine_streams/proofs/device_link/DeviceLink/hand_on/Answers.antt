use Rattle.std.proofs.Common.{ℕ, ◌≤◌, ◌+◌, ◌-◌, List, length, take, drop, ap, sym, ◌∙◌, arith}
use Rattle.std.proofs.lemmas.List.{length-take-le}
use Rattle.engine_streams.specs.Device.{OnDevice}
use Rattle.engine_streams.proofs.Frames.{handed}
use Rattle.engine_streams.proofs.device_link.DeviceLink.hand_on.Goals as goal

pub returns-clause-handed : goal.returns-clause-handed
returns-clause-handed g c =
    let s = c.self.inside in
    let n = c.min-count.result in
    let copied = c.copy_from_slice.new.self in
    let within = c.min-count.ensures in
    let is = c.copy_from_slice.ensures.after ∙ ap (λ (xs : List ℕ). take (s.from + n - s.from) (drop s.from xs)) c.deref.ensures.value in
    let fits : n ≤ length c.args.room.now = omega (arith, within) in
    let len = c.copy_from_slice.ensures.len ∙ length-take-le n c.args.room.now fits in (
      sym (ap (λ v. v.kept) c.self.view_is) ∙ handed s.frame.items copied (drop n c.args.room.now) s.from s.until n s.order (omega (arith, within)) len is,
      ap {A = OnDevice g.row.R.Denot g.row.W.Denot} (λ v. record v { kept = take (s.until - (s.from + n)) (drop (s.from + n) s.frame.items) }) c.self.view_is,
    )
