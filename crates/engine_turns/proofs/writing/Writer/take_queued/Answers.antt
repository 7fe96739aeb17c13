use Rattle.std.proofs.Common.{ap, ◌∙◌, arith}
use Rattle.crossbeam_channel.specs.Claims.{view}
use Rattle.engine_queues.proofs.ReplySteps.{gets}
use Rattle.engine_turns.proofs.Batching.{gets_more}
use Rattle.engine_turns.proofs.writing.Writer.take_queued.Goals as goal

pub try_recv_as-requires-clause-rule : goal.try_recv_as-requires-clause-rule
try_recv_as-requires-clause-rule g c = (gets _ _ c.loop.self.gets, λ items views b at. tt)

pub loop-preserved : goal.loop-preserved
loop-preserved g c =
    let l = c.loop in
    let i = l.invariant in
    let p = c.put.ensures in
    let rule = c.in-Ok.ensures.rule in
    record {
      queue = i.queue;
      made = ap (λ v. v.made) rule ∙ i.made;
      gets = gets_more (view c.args.self.now.pass) (view l.self.pass) (view c.try_recv_as.new.pass) l.self.batch.left.items c.put.new.self.left.items l.self.batch.bytes.items c.put.new.self.bytes.items c.in-Ok.queued_reply
          i.gets rule p.left p.bytes;
      few = (let a = p.len.0 in let b = i.few in omega arith);
      same = (let a = p.len.1 in let b = p.len.0 in omega arith);
      broken = i.broken;
    }
