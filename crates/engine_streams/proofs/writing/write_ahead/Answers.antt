use Rattle.engine_streams.proofs.Parts.{whole_part}
use Rattle.engine_streams.proofs.writing.write_ahead.Goals as goal

pub returns-in-Ok-clause-part : goal.returns-in-Ok-clause-part
returns-in-Ok-clause-part g c = whole_part (g.W.Write.contents c.args.writer.now) (g.W.Write.contents c.write_parts.new.writer) c.args.bytes.now c.in-Ok.ensures.whole
