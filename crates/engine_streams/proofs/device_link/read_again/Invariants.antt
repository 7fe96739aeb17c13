use Rattle.std.specs.Prelude.{◌≡◌, length}
use Rattle.engine_streams.specs.Device.{Passes}
use Rattle.engine_streams.proofs.device_link.read_again.Given as goal

-- each read so far is followed by another
abbrev pub invariant-loop-try : goal.invariant-loop-try
invariant-loop-try g l = record { passes : Passes g.R.ReadRequest.gives l._try l.initial.requests l.requests; len : length l.room ≡ length l.initial.room }
