use Rattle.std.proofs.Common.{Bool, Option, List, map, subst, ap}
use Rattle.crossbeam_channel.specs.Claims.{view}
use Rattle.engine.specs.Batches.{bytes_of}
use Rattle.engine_queues.specs.declared.left.Left.{Left}
use Rattle.engine_turns.specs.Batches.{OffersAll, SettlesAll, endings}
use Rattle.engine_turns.proofs.Batching.{writes_all}
use Rattle.engine_turns.proofs.writing.Writer.turns.Goals as goal

pub returns-clause-wrote : goal.returns-clause-wrote
returns-clause-wrote g c =
    let q = c.take_queued.new.self in
    let o = c.offer-self in
    let up = c.settle.ensures.settles in
    let offers = subst (λ (b : Bool). OffersAll g.L.LinkOut.sends c.args.link.now (map bytes_of q.batch.bytes.items) b o.new.self.sent.items o.new.link o.result) c.take_queued.ensures.broken o.ensures.offers in
    let settles = subst (λ (ls : List (Option Left)). SettlesAll ls o.new.self.sent.items (endings c.settle.new.self.settled.items up.folders up.calls)) (ap (λ v. v.items) o.ensures.left) up.so in
    record {
      folders = up.folders;
      chain = up.chain;
      calls = up.calls;
      on_table = up.on_table;
      so = writes_all g.L.LinkOut.sends (view c.args.self.now.pass) (view q.pass) c.args.link.now o.new.link c.args.self.now.is_broken o.result q.batch.left.items q.batch.bytes.items o.new.self.sent.items (endings c.settle.new.self.settled.items up.folders up.calls)
          c.take_queued.ensures.gets offers settles;
    }
