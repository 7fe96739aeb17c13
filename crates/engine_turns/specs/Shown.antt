-- Jobs as frames with verdicts, and how far a reader is, as the code represents it.
use Rattle.std.specs.Prelude.{List, drop, map, take}
use Rattle.std.specs.Option.{option_map}
use Rattle.crossbeam_channel.specs.Claims.{view}
use Rattle.engine_turns.specs.declared.job.Job.{Job}
use Rattle.engine_turns.specs.Verdicts.{Progress, Queued, Reading}
use Rattle.engine_turns.specs.declared.reader.Reader.{Reader}
use Rattle.engine_turns.specs.declared.reader.TheConstants.{GAP}

abbrev pub shown : Job → Queued
shown job = record { agreed = job.agreed; frame = job.frame.items }

abbrev pub queued_of : List Job → List Queued
queued_of jobs = map shown jobs

abbrev pub progress : Reader → Progress
progress reader = record {
  kept = reader.cutter.kept;
  unkept = take reader.unkept (drop GAP reader.room.items);
  agreed = reader.agreed;
  put = queued_of (view reader.pass).put;
  last_job = option_map shown reader.last_job;
  handed_back = option_map shown reader.handed_back;
}

abbrev pub reading : {L : Type 0} → L → Reader → Reading L
reading link reader = record { link = link; so_far = progress reader }
