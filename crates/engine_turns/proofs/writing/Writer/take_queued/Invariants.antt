use Rattle.std.proofs.Common.{◌≡◌, ◌≤◌, vec_len}
use Rattle.crossbeam_channel.specs.Claims.{view}
use Rattle.crossbeam_channel.specs.Ends.{receives_on}
use Rattle.engine_turns.specs.Batches.{GetsAll}
use Rattle.engine_turns.proofs.writing.Writer.take_queued.Given as goal

-- what was taken so far
abbrev pub invariant-loop : goal.invariant-loop
invariant-loop g l = record {
  queue : receives_on l.self.replies ≡ receives_on l.initial.self.replies;
  made : (view l.self.pass).made ≡ (view l.initial.self.pass).made;
  gets : GetsAll (view l.initial.self.pass) l.self.batch.left.items l.self.batch.bytes.items (view l.self.pass);
  few : vec_len l.self.batch.left ≤ l.counter;
  same : vec_len l.self.batch.bytes ≡ vec_len l.self.batch.left;
  broken : l.self.is_broken ≡ l.initial.self.is_broken;
}
