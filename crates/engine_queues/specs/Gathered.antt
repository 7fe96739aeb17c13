-- What the passes of threads that have ended know.
use Rattle.std.specs.Prelude.{◌≡◌, ℕ, ◌+◌, true, List, length, map}
use Rattle.std.specs.List.{All}
use Rattle.crossbeam_channel.specs.Claims.{view, Pass}
use Rattle.engine_queues.specs.declared.jobs.Hand.{Hand}
use Rattle.engine_queues.specs.declared.replies.ReplyLane.{ReplyLane}
use Rattle.engine_queues.specs.declared.replies.QueuedReply.{QueuedReply}
use Rattle.engine_queues.specs.declared.passes.Passes.{Passes}

-- the reader has taken nothing, and has all parts except those of n workers
pub record IsReading {J : Type 0} (v : Hand J) (n : ℕ) : Type 0 where
  pub parts : v.parts + n ≡ 8
  pub takes_none : length v.taken ≡ 0

-- the writer has made the passes of n senders, and has not learnt what any of them put
pub record IsWriting {M : Type 0} (v : ReplyLane M) (n : ℕ) : Type 0 where
  pub gets : v.gets ≡ true
  pub made : v.made ≡ n
  pub told_none : length v.known ≡ 0

module _ {J M : Type 0} where
  abbrev pub numbers_of : List (Passes J M) → List ℕ
  numbers_of ps = map (λ (p : Passes J M). p.number) ps

  -- what each worker took
  abbrev pub takings_of : List (Passes J M) → List (List J)
  takings_of ps = map (λ (p : Passes J M). (view p.job_pass).taken) ps

  -- what each worker put
  abbrev pub puts_of : List (Passes J M) → List (List (QueuedReply M))
  puts_of ps = map (λ (p : Passes J M). (view p.reply_pass).put) ps

  -- the passes belong to these queues
  abbrev pub AreSeated : (Pass J (Hand J) → Type 0) → (Pass (QueuedReply M) (ReplyLane M) → Type 0) → List (Passes J M) → Type 0
  AreSeated on_jobs on_replies ps = All (λ (p : Passes J M). on_jobs p.job_pass × on_replies p.reply_pass) ps
