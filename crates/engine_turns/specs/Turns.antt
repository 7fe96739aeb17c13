-- What one turn of each thread does.
use Rattle.std.specs.Prelude.{◌≡◌, ℕ, ◌+◌, Bool, true, false, List, [], ◌∷◌, Option, Some, None}
use Rattle.std.specs.Option.{option_or}
use Rattle.handles.specs.Calls.{FolderCall}
use Rattle.ledger.specs.Shares.{Part}
use Rattle.table_steps.specs.Answers.{Settlement}
use Rattle.table_shared.specs.Runs as made
use Rattle.table_shared.specs.Runs.{Call}
use Rattle.wire.specs.Written.{reply_bytes}
use Rattle.terms.specs.declared.settings.Settings.{Settings}
use Rattle.engine.specs.Chain.{Chain}
use Rattle.engine.specs.Folders.{GivesUp}
use Rattle.engine.specs.Reference.{Offer, Turn, is_broken, is_taken}
use Rattle.engine.specs.Serving.{Behaviour, Draws}
use Rattle.engine.specs.declared.served.Served.{Served}
use Rattle.engine.specs.declared.links.Sent.{Sent}
use Rattle.engine.specs.declared.links.Sent.TheVariants.{Taken}
use Rattle.engine_queues.specs.Jobs.{taken_of}
use Rattle.engine_queues.specs.Replies as queued_replies
use Rattle.engine_queues.specs.declared.jobs.Hand.{Hand}
use Rattle.engine_queues.specs.declared.replies.ReplyLane.{ReplyLane}
use Rattle.engine_queues.specs.declared.replies.QueuedReply.{QueuedReply}
use Rattle.engine_turns.specs.TableCalls.{Fresh, GainsListed, OnTable, TurnEnd, left_in, settled_in, settlement_of, then_all}
use Rattle.engine_turns.specs.Rights.{IsJobHandled}
use Rattle.engine.specs.Batches.{bytes_of}
use Rattle.engine_turns.specs.declared.job.Job.{Job}
use Rattle.engine_queues.specs.declared.left.Left.{Left}
use Rattle.engine_turns.specs.declared.replies.JobReply.{JobReply}

-- ---- a worker

-- what is written for the reply of the turn
abbrev pub Writes : Option Offer → Option (List ℕ) → Type 0
Writes None bytes = bytes ≡ None
Writes (Some offer) bytes = (bytes ≡ Some (reply_bytes offer.reply)) × (offer.sent ≡ Taken)

-- what a worker handles a job with: a directory and open folders, its share of the table's book, and what it did on the
-- table
pub record Means (C D : Type 0) : Type 0 where
  pub served : Served C D
  pub share : Part
  pub on_table : OnTable

abbrev pub means : {C D : Type 0} → Served C D → Part → OnTable → Means C D
means served share on_table = record { served = served; share = share; on_table = on_table }

-- the results of a job: the reply that is written, if any, and what the calls on the table led to
pub record Met : Type 0 where
  pub said : Option (List ℕ)
  pub turn_end : TurnEnd

-- A job is handled by the rules of a session: with these calls of the directory, of the open folders and on the table,
-- each in order and once. The share gains the entries of the answer that is left or settled.
pub record MeetsJob {C D : Type 0} (does : Behaviour C D) (settings : Settings) (job : Job) (old : Means C D) (met : Met) (new : Means C D) : Type 0 where
  pub turn : Turn
  pub handled : IsJobHandled settings job turn old.on_table met.turn_end new.on_table
  pub draws : Draws does old.served turn.made turn.folders new.served
  pub writes : Writes turn.offer met.said
  pub gains : GainsListed (record { turn_end = Fresh; on_table = old.on_table }) old.share (record { turn_end = met.turn_end; on_table = new.on_table }) new.share

-- the handle of the listing that was stored for an answer
abbrev pub put_in : Option Left → Option ℕ
put_in None = None
put_in (Some left) = left.put

-- the reply of that sender to that job
pub record IsReplyTo (settings : Settings) (from : ℕ) (job : Job) (bytes : List ℕ) (turn_end : TurnEnd) (queued_reply : QueuedReply JobReply) : Type 0 where
  pub from_is : queued_reply.from ≡ from
  pub settings_are : queued_reply.reply.settings ≡ settings
  pub job_is : queued_reply.reply.job.value ≡ job
  pub bytes_are : bytes_of queued_reply.reply.bytes ≡ bytes
  pub left_is : queued_reply.reply.left ≡ left_in turn_end

-- the end of a turn: the settle of an answer, the calls of the open folders, and those on the table
pub record Ending : Type 0 where
  pub settled : Option Settlement
  pub folders : List FolderCall
  pub on_table : List Call

abbrev pub ending : Option Settlement → List FolderCall → List Call → Ending
ending settled folders on_table = record { settled = settled; folders = folders; on_table = on_table }

-- what happens to an answer that is left
abbrev pub ended_as : Option Left → (taken : Bool) → Option Settlement
ended_as None taken = None
ended_as (Some left) taken = Some (settlement_of left.answered taken)

abbrev pub settles_of : Option Left → (taken : Bool) → List Call
settles_of None taken = []
settles_of (Some left) taken = made.settled left.answered taken (settlement_of left.answered taken) ∷ []

-- what is settled if the reply was returned: what is left, as untaken
abbrev pub untaken_in : TurnEnd → Option Settlement
untaken_in turn_end = option_or (ended_as (left_in turn_end) false) (settled_in turn_end)

-- it is settled; if a listing was stored for it and its reply was not taken, the listing's handle is closed
pub record IsEnded (left : Option Left) (taken : Bool) (did : Ending) : Type 0 where
  pub settled_is : did.settled ≡ ended_as left taken
  pub gives_up : GivesUp taken (put_in left) did.folders
  pub settles : did.on_table ≡ settles_of left taken

-- with these calls of the open folders and on the table, and no others
pub record ByBoth {D : Type 0} (keeps : D → FolderCall → D → Type 0) (old : D) (before : OnTable) (new : D) (after : OnTable) (holds : List FolderCall → List Call → Type 0) : Type 0 where
  pub folders : List FolderCall
  pub chain : Chain keeps old folders new
  pub calls : List Call
  pub on_table : after ≡ then_all before calls
  pub so : holds folders calls

-- what a worker has put into the reply queue, and how many of its replies that queue returned
pub record Outbox : Type 0 where
  pub lane : ReplyLane JobReply
  pub handed_back : ℕ

abbrev pub outbox : ReplyLane JobReply → (handed_back : ℕ) → Outbox
outbox lane handed_back = record { lane = lane; handed_back = handed_back }

-- Exactly one reply is put, or else the queue returns it, which is counted; then its answer is settled as untaken, and
-- the handle of a listing that was stored for it is closed. If nothing is written, nothing is put or counted.
pub data PutsReply (settings : Settings) (from : ℕ) (job : Job) (met : Met) (old : Outbox) (did : Ending) (new : Outbox) : Type 0 where
  is_put : (bytes : List ℕ) (queued_reply : QueuedReply JobReply) → met.said ≡ Some bytes → IsReplyTo settings from job bytes met.turn_end queued_reply → new ≡ outbox (queued_replies.put_of old.lane queued_reply) old.handed_back → did.settled ≡ settled_in met.turn_end → did.folders ≡ [] → did.on_table ≡ []
      → PutsReply settings from job met old did new
  handed_back : (bytes : List ℕ) → met.said ≡ Some bytes → new ≡ outbox old.lane (old.handed_back + 1) → did.settled ≡ untaken_in met.turn_end → GivesUp false (put_in (left_in met.turn_end)) did.folders → did.on_table ≡ settles_of (left_in met.turn_end) false
      → PutsReply settings from job met old did new
  none : met.said ≡ None → new ≡ old → did.settled ≡ settled_in met.turn_end → did.folders ≡ [] → did.on_table ≡ [] → PutsReply settings from job met old did new

-- the state of a worker: what it has taken from the job queue, what became of its replies, and what it handles jobs
-- with
pub record Standing (C D : Type 0) : Type 0 where
  pub hand : Hand Job
  pub out : Outbox
  pub means : Means C D

abbrev pub standing : {C D : Type 0} → Hand Job → Outbox → Means C D → Standing C D
standing taken out means = record { hand = taken; out = out; means = means }

-- it has taken this job too
abbrev pub takes : {C D : Type 0} → Standing C D → Job → Standing C D
takes old job = record { hand = taken_of old.hand job; out = old.out; means = old.means }

-- a job was handled and then answered, without being taken from the queue
pub record AnswersJob {C D : Type 0} (does : Behaviour C D) (settings : Settings) (from : ℕ) (job : Job) (old : Standing C D) (settled : Option Settlement) (new : Standing C D) : Type 0 where
  pub met : Met
  pub between : D
  pub handled : OnTable
  pub meets : MeetsJob does settings job old.means met (means (record { calls = new.means.served.calls; dirs = between }) new.means.share handled)
  pub puts : ByBoth does.keeps between handled new.means.served.dirs new.means.on_table (λ folders calls. PutsReply settings from job met old.out (ending settled folders calls) new.out)
  pub hand_is : new.hand ≡ old.hand

-- one job was taken, handled and answered
pub record Worked {C D : Type 0} (does : Behaviour C D) (settings : Settings) (from : ℕ) (old : Standing C D) (settled : Option Settlement) (new : Standing C D) : Type 0 where
  pub job : Job
  pub answers : AnswersJob does settings from job (takes old job) settled new

-- ---- the writer

-- its bytes are offered, once
pub record OffersBytes {L : Type 0} (sends : L → List ℕ → Sent → L → Type 0) (queued_reply : QueuedReply JobReply) (did : Ending) (link link' : L) (broken : Bool) : Type 0 where
  pub sent : Sent
  pub offer : sends link (bytes_of queued_reply.reply.bytes) sent link'
  pub ends : IsEnded queued_reply.reply.left (is_taken sent) did
  pub broken_is : broken ≡ is_broken sent

-- nothing is offered after the link broke
pub record OffersNothing {L : Type 0} (queued_reply : QueuedReply JobReply) (did : Ending) (link link' : L) (broken : Bool) : Type 0 where
  pub link_is : link' ≡ link
  pub ends : IsEnded queued_reply.reply.left false did
  pub broken_is : broken ≡ true

abbrev pub Offers : {L : Type 0} → (L → List ℕ → Sent → L → Type 0) → QueuedReply JobReply → Ending → L → L → (before after : Bool) → Type 0
Offers sends queued_reply did link link' true broken = OffersNothing queued_reply did link link' broken
Offers sends queued_reply did link link' false broken = OffersBytes sends queued_reply did link link' broken

-- the first reply was taken from the queue and offered, and its answer settled
pub record Wrote {L : Type 0} (sends : L → List ℕ → Sent → L → Type 0) (lane : ReplyLane JobReply) (link : L) (before : Bool) (did : Ending) (lane' : ReplyLane JobReply) (link' : L) (after : Bool) : Type 0 where
  pub queued_reply : QueuedReply JobReply
  pub got : lane' ≡ queued_replies.got_of lane queued_reply
  pub offers : Offers sends queued_reply did link link' before after
