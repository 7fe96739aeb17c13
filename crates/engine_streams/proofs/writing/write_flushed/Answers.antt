use Rattle.engine_streams.proofs.Parts.{whole_part}
use Rattle.engine_streams.proofs.writing.write_flushed.Goals as goal

pub returns-in-Ok-clause-part : goal.returns-in-Ok-clause-part
returns-in-Ok-clause-part g c = whole_part (g.W.Write.contents c.args.writer.now) (g.W.Write.contents c.write_counted.new.writer) c.args.bytes.now c.in-Ok.ensures.whole

pub returns-in-Err-clause-part : goal.returns-in-Err-clause-part
returns-in-Err-clause-part g c = let first = c.in-Err.ensures.part in (c.in-Err.fault.written, first.appended)
