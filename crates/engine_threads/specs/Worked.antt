-- What the workers of a session did.
use Rattle.std.specs.Prelude.{◌≡◌, ℕ, ◌+◌, ◌<◌, List, [], length, Option, Some, None}
use Rattle.std.specs.Borrow.{Bor}
use Rattle.std.specs.List.{All}
use mathlib.Core.Option.{some}
use lib.ListN.{get_elem?}
use Rattle.crossbeam_channel.specs.Claims.{view, IsSeatAt, Pass}
use Rattle.ledger.specs.Shares.{Part, nothing}
use Rattle.table_steps.specs.Answers.{Settlement}
use Rattle.terms.specs.declared.settings.Settings.{Settings}
use Rattle.backing.specs.Calls.{Asked}
use Rattle.backing.specs.declared.call.Answer.{Answer}
use Rattle.handles.specs.Calls.{Shares}
use Rattle.handles.specs.declared.limits.FolderLimits.{FolderLimits}
use Rattle.engine.specs.Chain.{Chain}
use Rattle.engine.specs.Serving.{Behaviour, does}
use Rattle.engine_turns.specs.declared.job.Job.{Job}
use Rattle.engine_queues.specs.Jobs.{hand}
use Rattle.engine_queues.specs.Replies.{sender}
use Rattle.engine_queues.specs.declared.jobs.Hand.{Hand}
use Rattle.engine_queues.specs.declared.passes.Passes.{Passes}
use Rattle.engine_queues.specs.declared.replies.QueuedReply.{QueuedReply}
use Rattle.engine_queues.specs.declared.replies.ReplyLane.{ReplyLane}
use Rattle.table_shared.specs.Histories.{calls_by, history_of}
use Rattle.table_shared.specs.Runs.{Call, Log}
use Rattle.engine_turns.specs.Queues.{JobQueue, ReplyQueue}
use Rattle.engine_turns.specs.TableCalls.{OnTable, idle}
use Rattle.engine_turns.specs.Turns.{AnswersJob, Standing, Worked, means, outbox, standing}
use Rattle.engine_turns.specs.declared.replies.JobReply.{JobReply}
use Rattle.engine_turns.specs.declared.working.Worker.{Worker}

-- calls of a directory, and of the open folders that all threads share
abbrev pub does_shared : {C : Type 0} → (C → Asked → Answer → C → Type 0) → Behaviour C (Bor FolderLimits)
does_shared gives = does gives Shares

-- ---- how a worker stands

-- what it took from the one queue and put into the other, its directory, its share, and what it did on the table
pub record Stand (C : Type 0) : Type 0 where
  pub taken : Hand Job
  pub put : ReplyLane JobReply
  pub calls : C
  pub share : Part
  pub on_table : OnTable

abbrev pub stand : {C : Type 0} → Hand Job → ReplyLane JobReply → C → Part → OnTable → Stand C
stand taken put calls share on_table = record { taken = taken; put = put; calls = calls; share = share; on_table = on_table }

-- the worker between two turns. It got none of its replies back
abbrev pub stand_of : {C : Type 0} → Worker → C → Part → OnTable → Stand C
stand_of worker calls share on_table = stand (view worker.job_pass) (view worker.reply_pass) calls share on_table

-- the same with the open folders, as they are at that moment
abbrev pub beside : {C D : Type 0} → Stand C → D → Standing C D
beside old dirs = standing old.taken (outbox old.put 0) (means (record { calls = old.calls; dirs = dirs }) old.share old.on_table)

-- a worker that has taken no job, put no reply and made no call on the table
abbrev pub newcomer : {C : Type 0} → (number : ℕ) → C → Part → Stand C
newcomer number calls share = stand (hand 1 [] []) (sender number []) calls share (idle number)

-- ---- what it does

-- one job is taken, handled and answered. What was done to the open folders meanwhile is said of this turn alone, since others use them too
pub record WorksOne {C D : Type 0} (does : Behaviour C D) (settings : Settings) (number : ℕ) (old : Stand C) (settled : Option Settlement) (new : Stand C) : Type 0 where
  pub dirs : D
  pub dirs' : D
  pub worked : Worked does settings number (beside old dirs) settled (beside new dirs')

-- any number of jobs, one after another
pub record WorksOn {C D : Type 0} (does : Behaviour C D) (settings : Settings) (number : ℕ) (old new : Stand C) : Type 0 where
  pub settled : List (Option Settlement)
  pub works : Chain (WorksOne does settings number) old settled new

-- the worker with that number began with this directory and an empty share, and has worked this far
pub record HasWorked {C D : Type 0} (does : Behaviour C D) (settings : Settings) (number : ℕ) (first : C) (now : Stand C) : Type 0 where
  pub share : Part
  pub share_is : share.totals ≡ nothing
  pub works : WorksOn does settings number (newcomer number first share) now

-- by these settings it began with its directory among those that were given, and has worked this far
pub record HasWorkedSo {C D : Type 0} (does : Behaviour C D) (settings : Option Settings) (given : List C) (worker : Worker) (calls : C) (share : Part) (on_table : OnTable) : Type 0 where
  pub settings_are : settings ≡ Some worker.session.settings
  pub first : C
  pub first_is : get_elem? given worker.number ≡ some first
  pub worked : HasWorked does worker.session.settings worker.number first (stand_of worker calls share on_table)

-- a job that was not in the queue is handled and answered
pub record AnswersOne {C D : Type 0} (does : Behaviour C D) (settings : Settings) (number : ℕ) (job : Job) (old new : Stand C) : Type 0 where
  pub settled : Option Settlement
  pub dirs : D
  pub dirs' : D
  pub answers : AnswersJob does settings number job (beside old dirs) settled (beside new dirs')

-- the frame that ended the session is answered last, if there is one
abbrev pub AnswersLast : {C D : Type 0} → Behaviour C D → Settings → (number : ℕ) → (last_job : Option Job) → (old new : Stand C) → Type 0
AnswersLast does settings number None old new = new ≡ old
AnswersLast does settings number (Some job) old new = AnswersOne does settings number job old new

-- the worker with that number began with this directory, worked on the jobs that it took, and then answered the last frame, if that was
-- for it to do; it did this with both queues, and this directory, this share and these calls on the table are what is left
pub record HasWorkedFrom {C D : Type 0} (does : Behaviour C D) (settings : Settings) (number : ℕ) (first : C) (last_job : Option Job) (passes : Passes Job JobReply) (left : C) (share : Part) (on_table : OnTable) : Type 0 where
  pub before : Stand C
  pub worked : HasWorked does settings number first before
  pub last : AnswersLast does settings number last_job before (stand (view passes.job_pass) (view passes.reply_pass) left share on_table)

-- the same of a worker that has ended, by these settings, whose directory is among those that were given
pub record HasEnded {C D : Type 0} (does : Behaviour C D) (settings : Option Settings) (given : List C) (last_job : Option Job) (passes : Passes Job JobReply) (left : C) (share : Part) (on_table : OnTable) : Type 0 where
  pub of : Settings
  pub settings_are : settings ≡ Some of
  pub first : C
  pub first_is : get_elem? given passes.number ≡ some first
  pub worked : HasWorkedFrom does of passes.number first last_job passes left share on_table

-- ---- all of them

-- what the thread with this index did on the table, given which calls each thread made
abbrev pub made_by : (calls_by : ℕ → List Call) → ℕ → OnTable
made_by calls_by index = record { by = index; calls = calls_by index }

-- which calls each thread made, given a log of all
abbrev pub did : {L : Type 0} → Log L → ℕ → List Call
did log index = calls_by index (history_of log)

-- the n-th worker worked like this with the n-th directory: with these passes, and it left that directory
pub record WorkedAt {C D : Type 0} (does : Behaviour C D) (settings : Option Settings) (calls_by : ℕ → List Call) (last_job : Option Job) (given : List C) (passes : List (Passes Job JobReply)) (lefts : List C) (n : ℕ) : Type 0 where
  pub own : Passes Job JobReply
  pub own_is : get_elem? passes n ≡ some own
  pub number_is : own.number ≡ n
  pub left : C
  pub left_is : get_elem? lefts n ≡ some left
  pub share : Part
  pub ended : HasEnded does settings given last_job own left share (made_by calls_by n)

-- each directory's worker worked on the jobs that it took; the last one also answers the frame that ended the session, if one did
pub record WorkedEach {C D : Type 0} (does : Behaviour C D) (settings : Option Settings) (calls_by : ℕ → List Call) (last_job : Option Job) (given : List C) (passes : List (Passes Job JobReply)) (lefts : List C) : Type 0 where
  pub others : (n : ℕ) → n + 1 < length given → ∥ WorkedAt does settings calls_by None given passes lefts n ∥₁
  pub last : (n : ℕ) → n + 1 ≡ length given → ∥ WorkedAt does settings calls_by last_job given passes lefts n ∥₁
  pub passes_len : length passes ≡ length given
  pub lefts_len : length lefts ≡ length given

-- the pass belongs to this queue
abbrev pub IsTakerAt : Option JobQueue → Pass Job (Hand Job) → Type 0
IsTakerAt jobs pass = (queue : JobQueue) → jobs ≡ Some queue → IsSeatAt queue pass

abbrev pub IsSenderAt : Option ReplyQueue → Pass (QueuedReply JobReply) (ReplyLane JobReply) → Type 0
IsSenderAt replies pass = (queue : ReplyQueue) → replies ≡ Some queue → IsSeatAt queue pass

-- the passes belong to these queues
abbrev pub AreSeatedAt : Option JobQueue → Option ReplyQueue → List (Passes Job JobReply) → Type 0
AreSeatedAt jobs replies passes = All (λ (p : Passes Job JobReply). IsTakerAt jobs p.job_pass × IsSenderAt replies p.reply_pass) passes
