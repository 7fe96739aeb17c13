use Rattle.std.specs.Io.KnownBytes.{Keeps}
use Rattle.engine_streams.proofs.link.read_there.Given as goal

-- a read that was interrupted took nothing
abbrev pub invariant-loop-try : goal.invariant-loop-try
invariant-loop-try g l = Keeps (g.R.Read.remaining l.initial.reader) (g.R.Read.remaining l.reader)
