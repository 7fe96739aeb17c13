use Rattle.std.proofs.Common.{true, false, ◌∙◌, arith}
use Rattle.engine_streams.proofs.Joined.{stretch_broken, stretch_done, stretch_of, stretch_on}
use Rattle.engine_streams.proofs.link.StreamLinkLinkOut.send_all.Goals as goal

pub loop-self-preserved : goal.loop-self-preserved
loop-self-preserved g c =
    let l = c.loop-self in
    let s = c.send_first in
    let sends = stretch_of c.args.frames.now l.self s.new.self l.sent.items s.new.sent.items c.len-in-loop-self.result s.result true (c.len-in-loop-self.ensures ∙ l.sent.ok.0) c.if-not-send_first.false s.ensures.sends in
    let on = stretch_on c.args.frames.now c.args.self.now l.self s.new.self l.sent.items s.new.sent.items l.invariant.within l.invariant.begun sends in
    record { begun = on.0; within = on.1; room = s.ensures.room ∙ l.invariant.room }

pub loop-self-smaller : goal.loop-self-smaller
loop-self-smaller g c =
    let l = c.loop-self in
    let s = c.send_first in
    let sends = stretch_of c.args.frames.now l.self s.new.self l.sent.items s.new.sent.items c.len-in-loop-self.result s.result true (c.len-in-loop-self.ensures ∙ l.sent.ok.0) c.if-not-send_first.false s.ensures.sends in
    let on = stretch_on c.args.frames.now c.args.self.now l.self s.new.self l.sent.items s.new.sent.items l.invariant.within l.invariant.begun sends in
    let more = on.2 in
    let within = on.1 in
    omega arith

pub returns-then-not-send_first-clause-sends : goal.returns-then-not-send_first-clause-sends
returns-then-not-send_first-clause-sends g c =
    let l = c.loop-self in
    let s = c.send_first in
    let sends = stretch_of c.args.frames.now l.self s.new.self l.sent.items s.new.sent.items c.len-in-loop-self.result s.result false (c.len-in-loop-self.ensures ∙ l.sent.ok.0) c.if-not-send_first.true s.ensures.sends in
    stretch_broken c.args.frames.now c.args.self.now l.self s.new.self l.sent.items s.new.sent.items l.invariant.begun sends

pub returns-clause-sends : goal.returns-clause-sends
returns-clause-sends g c =
    let l = c.loop-self in
    let past = c.loop-self-test.false in
    let n = c.len.ensures ∙ l.sent.ok.0 in
    stretch_done c.args.frames.now c.args.self.now l.self l.sent.items (omega (arith, n, past)) l.invariant.begun
