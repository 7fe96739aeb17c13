use Rattle.std.proofs.Common.{ℕ, List, ◌++◌, ◌∷◌, [], ap, subst, sym, ◌∙◌, arith}
use Rattle.engine.specs.Batches.{bytes_of}
use Rattle.engine.specs.declared.links.Sent.{Sent}
use Rattle.engine.proofs.Offering.{all_done, broken_of, one_breaks, one_more, stands_of}
use Rattle.engine.proofs.links.LinkOut.send_all.Goals as goal

pub returns-then-eq-clause-sends : goal.returns-then-eq-clause-sends
returns-then-eq-clause-sends g c =
    let sends = g.Self.LinkOut.sends in
    let l = c.loop-frame in
    let broken = broken_of c.send-verdict.result (sym c.if-eq.true ∙ c.eq.ensures) in
    let sent = subst (λ (bytes : List ℕ). sends l.self bytes c.send-verdict.result c.send-verdict.new.self) c.as_slice.ensures c.send-verdict.ensures in
    one_breaks sends c.args.self.now l.self c.send-verdict.new.self c.args.frames.now l.frame-index c.frame-item.result l.sent.items c.push_reserved.new.self.items c.loop-frame-test.true c.frame-item.is
    l.invariant.begun (subst (λ (s : Sent). sends l.self (bytes_of c.frame-item.result) s c.send-verdict.new.self) broken sent) (c.push_reserved.ensures.items ∙ ap (λ (s : Sent). l.sent.items ++ s ∷ []) broken)

pub loop-frame-preserved : goal.loop-frame-preserved
loop-frame-preserved g c =
    let sends = g.Self.LinkOut.sends in
    let l = c.loop-frame in
    let stands = stands_of c.send-verdict.result (sym c.if-eq.false ∙ c.eq.ensures) in
    let sent = subst (λ (bytes : List ℕ). sends l.self bytes c.send-verdict.result c.send-verdict.new.self) c.as_slice.ensures c.send-verdict.ensures in
    record {
      begun = one_more sends c.args.self.now l.self c.send-verdict.new.self c.args.frames.now l.frame-index c.frame-item.result l.sent.items c.push_reserved.new.self.items c.send-verdict.result c.loop-frame-test.true c.frame-item.is
          l.invariant.begun sent stands c.push_reserved.ensures.items;
      len = (let a = c.push_reserved.ensures.len in let b = l.invariant.len in omega arith);
      room = c.push_reserved.ensures.capacity ∙ l.invariant.room;
    }

pub returns-clause-sends : goal.returns-clause-sends
returns-clause-sends g c = all_done g.Self.LinkOut.sends c.args.self.now c.loop-frame.self c.args.frames.now c.loop-frame.frame-index c.loop-frame.sent.items c.loop-frame-test.false c.loop-frame.invariant.begun
