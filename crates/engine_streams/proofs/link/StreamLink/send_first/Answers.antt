use Rattle.std.proofs.Common.{ℕ, ◌≡◌, List, ap, refl, ◌∙◌, subst, map, true, false, arith, rules}
use Rattle.engine.specs.Batches.{bytes_of}
use Rattle.engine.specs.Links.{counted}
use Rattle.engine_streams.specs.Joining.{SendsFirst}
use Rattle.engine_streams.specs.Streams.{Streaming, Sends}
use Rattle.engine_streams.proofs.Joined.{joined_broken, joined_taken, one_alone, whole_below}
use Rattle.engine_streams.proofs.link.StreamLink.send_first.Goals as goal

pub returns-then-count-lt2-clause-sends : goal.returns-then-count-lt2-clause-sends
returns-then-count-lt2-clause-sends g c =
    let start : Streaming = record { input = g.R.Read.remaining c.self.inside.reader; output = g.W.Write.contents c.self.inside.writer; failures = c.self.inside.failures } in
    let sent = subst (λ (bytes : List ℕ). Sends start bytes c.send-verdict.result c.send-verdict.new.self) c.as_slice.ensures c.send-verdict.ensures in
    subst (λ (old : Streaming). SendsFirst old (map bytes_of c.args.frames.now) c.args.sent.now.items c.send-verdict.new.self c.push_reserved.new.self.items c.ne.result) c.self.view_is
    (one_alone start c.send-verdict.new.self c.args.frames.now c.index-frames-0.result c.args.sent.now.items c.push_reserved.new.self.items c.send-verdict.result c.ne.result c.requires.some c.index-frames-0.is
    sent c.push_reserved.ensures.items c.ne.ensures)

pub push_taken-requires-in-Err : goal.push_taken-requires-in-Err
push_taken-requires-in-Err g c =
    let below = whole_below c.args.frames.now c.join-count.result c.in-Err.fault.written c.whole_in.result (omega (arith, c.if-count-lt2.false)) c.join-count.ensures.within c.whole_in.ensures in
    record { room = omega (arith, below, c.requires.room) }

pub push_reserved-requires-in-Err : goal.push_reserved-requires-in-Err
push_reserved-requires-in-Err g c =
    let below = whole_below c.args.frames.now c.join-count.result c.in-Err.fault.written c.whole_in.result (omega (arith, c.if-count-lt2.false)) c.join-count.ensures.within c.whole_in.ensures in
    let p = c.push_taken-in-Err.ensures in
    omega (arith, below, c.requires.room, p.len, p.room)

pub returns-in-Ok-clause-sends : goal.returns-in-Ok-clause-sends
returns-in-Ok-clause-sends g c =
    let new : Streaming = record { input = g.R.Read.remaining c.self.inside.reader; output = g.W.Write.contents c.write_counted.new.writer; failures = c.self.inside.failures } in
    let start : Streaming = record { input = g.R.Read.remaining c.self.inside.reader; output = g.W.Write.contents c.self.inside.writer; failures = c.self.inside.failures } in
    subst (λ (old : Streaming). SendsFirst old (map bytes_of c.args.frames.now) c.args.sent.now.items new c.push_taken.new.sent.items true) c.self.view_is
    (joined_taken start new c.args.frames.now c.join-count.result c.deref.result.now c.args.sent.now.items c.push_taken.new.sent.items (omega (arith, c.if-count-lt2.false)) c.join-count.ensures.within
    (c.deref.ensures.value ∙ c.join-count.ensures.bytes) c.in-Ok.ensures.whole refl c.push_taken.ensures.items)

pub returns-in-Err-clause-sends : goal.returns-in-Err-clause-sends
returns-in-Err-clause-sends g c =
    let new : Streaming = record { input = g.R.Read.remaining c.self.inside.reader; output = g.W.Write.contents c.write_counted.new.writer; failures = c.saturating_add-self-inside.result } in
    let start : Streaming = record { input = g.R.Read.remaining c.self.inside.reader; output = g.W.Write.contents c.self.inside.writer; failures = c.self.inside.failures } in
    let e : c.saturating_add-self-inside.result ≡ counted c.self.inside.failures 1 = search rules in
    subst (λ (old : Streaming). SendsFirst old (map bytes_of c.args.frames.now) c.args.sent.now.items new c.push_reserved-in-Err.new.self.items false) c.self.view_is
    (joined_broken start new c.args.frames.now c.join-count.result c.in-Err.fault.written c.whole_in.result c.deref.result.now c.args.sent.now.items c.push_taken-in-Err.new.sent.items c.push_reserved-in-Err.new.self.items
    (omega (arith, c.if-count-lt2.false)) c.join-count.ensures.within (c.deref.ensures.value ∙ c.join-count.ensures.bytes) c.in-Err.ensures.part (ap (λ (n : ℕ). record new { failures = n }) e) c.whole_in.ensures
    c.push_taken-in-Err.ensures.items c.push_reserved-in-Err.ensures.items)
