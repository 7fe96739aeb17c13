use Rattle.engine_streams.specs.Writing.{AppendsFirst}
use Rattle.engine_streams.proofs.writing.write_parts.Given as goal

abbrev pub invariant-loop-try : goal.invariant-loop-try
invariant-loop-try g l = AppendsFirst l.written (g.W.Write.contents l.initial.writer) (g.W.Write.contents l.writer) l.bytes
