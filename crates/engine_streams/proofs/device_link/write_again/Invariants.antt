use Rattle.engine_streams.specs.Device.{Interrupts}
use Rattle.engine_streams.proofs.device_link.write_again.Given as goal

-- each write so far was interrupted by a signal
abbrev pub invariant-loop-try : goal.invariant-loop-try
invariant-loop-try g l = Interrupts g.W.WriteReply.takes l.reply l._try l.initial.replies l.replies
