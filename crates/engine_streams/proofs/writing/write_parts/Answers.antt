use Rattle.engine_streams.proofs.Parts.{part_on, part_kept}
use Rattle.engine_streams.proofs.writing.write_parts.Goals as goal
use Rattle.engine_streams.proofs.writing.write_parts.Goals.{in-Ok, in-Err+else-ne}

pub loop-try-preserved : goal.loop-try-preserved
loop-try-preserved g c =
    let start = g.W.Write.contents c.args.writer.now in
    let before = g.W.Write.contents c.loop-try.writer in
    let after = g.W.Write.contents c.write.new.self in
    elim c.match-write.branch [
      | in-Ok w ↦ part_on start before after c.loop-try.written w.in-Ok.count c.match-write.written c.args.bytes.now c.loop-try.invariant w.written-is w.in-Ok.ensures.bound w.in-Ok.ensures.bytes
      | in-Err+else-ne w ↦ part_kept start before after c.loop-try.written c.match-write.written c.args.bytes.now c.loop-try.invariant w.written-is w.in-Err.ensures.bytes
    ]
