use Rattle.std.proofs.Common.{◌∙◌, sym}
use Rattle.engine_streams.proofs.Devices.{passes_on}
use Rattle.engine_streams.proofs.device_link.read_again.Goals as goal

pub loop-try-preserved : goal.loop-try-preserved
loop-try-preserved g c = record {
  passes = passes_on g.R.ReadRequest.gives c.loop-try._try c.args.requests.now c.loop-try.requests c.read_request.new.self c.in-Err.fault c.loop-try.invariant.passes (sym c.is_passing.ensures ∙ c.if-not-is_passing.false) c.in-Err.ensures.gives;
  len = c.read_request.ensures.len ∙ c.loop-try.invariant.len;
}
