-- What a writer has done since it began.
use Rattle.std.specs.Prelude.{ℕ, ◌≡◌, Bool, true, false, List, [], Option, Some}
use Rattle.engine.specs.declared.links.Sent.{Sent}
use Rattle.engine_queues.specs.Replies.{writer}
use Rattle.engine_queues.specs.declared.replies.ReplyLane.{ReplyLane}
use Rattle.engine_turns.specs.TableCalls.{OnTable, idle, then_all}
use Rattle.engine_turns.specs.Batches.{Endings, WritesAll, Writing}
use Rattle.engine_turns.specs.declared.replies.JobReply.{JobReply}

abbrev pub writing : {L : Type 0} → ReplyLane JobReply → L → (is_broken : Bool) → Writing L
writing lane link is_broken = record { lane = lane; link = link; is_broken = is_broken }

-- what is known of a queue with that many senders from which nothing was taken
abbrev pub none_got : (senders : ℕ) → ReplyLane JobReply
none_got senders = writer [] senders []

-- a writer that has taken nothing
abbrev pub unsent : {L : Type 0} → L → (senders : ℕ) → Writing L
unsent link senders = writing (none_got senders) link false

-- it began with this link, and has offered what it took so far, each reply once and in order. All that it did on the
-- table are the settles of their answers
pub record HasWritten {L : Type 0} (sends : L → List ℕ → Sent → L → Type 0) (from : Option L) (senders : ℕ) (on_table : OnTable) (now : Writing L) : Type 0 where
  pub link : L
  pub began : from ≡ Some link
  pub all : Endings
  pub writes : WritesAll sends (unsent link senders) all now
  pub calls_are : on_table ≡ then_all (idle senders) all.on_table
