-- The queues of a session, as named by their ends.
use Rattle.std.specs.Prelude.{Option}
use Rattle.std.specs.declared.alloc.Global.{Global}
use Rattle.atomic_table.specs.declared.badge.Badge.{Badge}
use Rattle.crossbeam_channel.specs.declared.flavors.array.Doing.{Doing}
use Rattle.crossbeam_channel.specs.declared.flavors.array.Key.{Key}
use Rattle.crossbeam_channel.specs.declared.flavors.array.Lockers.{Lockers}
use Rattle.crossbeam_channel.specs.declared.flavors.array.Rounds.{Rounds}
use Rattle.crossbeam_channel.specs.declared.flavors.array.Rows.{Rows}
use Rattle.crossbeam_channel.specs.declared.flavors.array.Whole.{Whole}
use Rattle.engine_turns.specs.declared.job.Job.{Job}
use Rattle.engine_queues.specs.declared.jobs.Fair.{Fair}
use Rattle.engine_queues.specs.declared.jobs.Hand.{Hand}
use Rattle.engine_queues.specs.declared.replies.InOrder.{InOrder}
use Rattle.engine_queues.specs.declared.replies.QueuedReply.{QueuedReply}
use Rattle.engine_queues.specs.declared.replies.ReplyLane.{ReplyLane}
use Rattle.engine_turns.specs.declared.replies.JobReply.{JobReply}

-- a queue of messages X, whose passes have views V, under the rule P
abbrev pub Queue : Type 0 → Type 0 → Type 0 → Type 0
Queue X V P = Rows (Badge (Key X)) (Doing X V) (Rounds P) (Option X) (Key X) (Lockers Whole) Global

abbrev pub JobQueue : Type 0
JobQueue = Queue Job (Hand Job) Fair

abbrev pub ReplyQueue : Type 0
ReplyQueue = Queue (QueuedReply JobReply) (ReplyLane JobReply) InOrder
