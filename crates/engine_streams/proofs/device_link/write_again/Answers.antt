use Rattle.std.proofs.Common.{Err, subst}
use Rattle.engine_streams.specs.declared.device.DeviceFault.{DeviceFault}
use Rattle.engine_streams.proofs.Devices.{interrupts_on}
use Rattle.engine_streams.proofs.device_link.write_again.Goals as goal

pub loop-try-preserved : goal.loop-try-preserved
loop-try-preserved g c =
    let told = subst (λ (f : DeviceFault). g.W.WriteReply.takes c.loop-try.replies c.args.reply.now (Err f) c.write_reply.new.self) c.in-Err-Interrupted.field-0-is c.in-Err-Interrupted.ensures.takes in
    interrupts_on g.W.WriteReply.takes c.args.reply.now c.loop-try._try c.args.replies.now c.loop-try.replies c.write_reply.new.self c.loop-try.invariant told
