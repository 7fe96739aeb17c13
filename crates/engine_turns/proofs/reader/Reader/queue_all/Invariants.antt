use Rattle.std.proofs.Common.{◌≡◌, length}
use Rattle.crossbeam_channel.specs.Claims.{view}
use Rattle.crossbeam_channel.specs.Ends.{sends_on}
use Rattle.engine_turns.specs.Shown.{progress}
use Rattle.engine_turns.specs.Verdicts.{Queueing}
use Rattle.engine_turns.proofs.reader.Reader.queue_all.Given as goal

abbrev pub invariant-loop-frame : goal.invariant-loop-frame
invariant-loop-frame g l = record {
  so_far : Queueing (progress l.initial.self) (progress l.self);
  queue : sends_on l.self.to ≡ sends_on l.initial.self.to;
  parts : (view l.self.pass).parts ≡ (view l.initial.self.pass).parts;
}

abbrev pub decreases-loop-frame : goal.decreases-loop-frame
decreases-loop-frame g l = length l.self.cutter.kept
