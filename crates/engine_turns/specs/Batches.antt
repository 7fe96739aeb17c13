-- Replies that a writer takes, offers and settles together: the same as doing it one by one.
use Rattle.std.specs.Prelude.{◌≡◌, ℕ, suc, ◌-◌, Bool, true, false, List, [], ◌∷◌, length, map, flat_map, get_or, Option, Some}
use Rattle.handles.specs.Calls.{FolderCall}
use Rattle.table_steps.specs.Answers.{Settlement}
use Rattle.table_shared.specs.Runs.{Call}
use Rattle.engine.specs.Batches.{SendsEach}
use Rattle.engine.specs.Chain.{Chain}
use Rattle.engine.specs.Reference.{is_broken, is_taken}
use Rattle.engine.specs.declared.bytes.ReplyBytes.{ReplyBytes}
use Rattle.engine.specs.declared.links.Sent.{Sent}
use Rattle.engine.specs.declared.links.Sent.TheVariants.{Untaken}
use Rattle.engine_queues.specs.declared.left.Left.{Left}
use Rattle.engine_queues.specs.Replies.{got_of}
use Rattle.engine_queues.specs.declared.replies.QueuedReply.{QueuedReply}
use Rattle.engine_queues.specs.declared.replies.ReplyLane.{ReplyLane}
use Rattle.engine_turns.specs.Turns.{Ending, IsEnded, Wrote}
use Rattle.engine_turns.specs.declared.replies.JobReply.{JobReply}

-- ---- the turns

-- a writer between two turns: what it knows of the queue, its link, and whether the link is broken
pub record Writing (L : Type 0) : Type 0 where
  pub lane : ReplyLane JobReply
  pub link : L
  pub is_broken : Bool

abbrev pub WritesOne : {L : Type 0} → (L → List ℕ → Sent → L → Type 0) → Writing L → Ending → Writing L → Type 0
WritesOne sends old ending new = Wrote sends old.lane old.link old.is_broken ending new.lane new.link new.is_broken

-- all settles, all calls of the open folders, and all calls on the table
pub record Endings : Type 0 where
  pub settled : List (Option Settlement)
  pub folders : List FolderCall
  pub on_table : List Call

abbrev pub endings : List (Option Settlement) → List FolderCall → List Call → Endings
endings settled folders on_table = record { settled = settled; folders = folders; on_table = on_table }

-- they are those of these turns
pub record AreEndings (all : Endings) (turns : List Ending) : Type 0 where
  pub settled_are : all.settled ≡ map (λ turn. turn.settled) turns
  pub folders_are : all.folders ≡ flat_map (λ turn. turn.folders) turns
  pub on_table_are : all.on_table ≡ flat_map (λ turn. turn.on_table) turns

-- one such turn after another
pub record WritesAll {L : Type 0} (sends : L → List ℕ → Sent → L → Type 0) (old : Writing L) (all : Endings) (new : Writing L) : Type 0 where
  pub turns : List Ending
  pub chain : Chain (WritesOne sends) old turns new
  pub all_are : AreEndings all turns

-- ---- the same by kinds: all are taken from the queue, then all are offered, then all answers are settled

abbrev pub GetsOne : ReplyLane JobReply → QueuedReply JobReply → ReplyLane JobReply → Type 0
GetsOne lane queued_reply lane' = lane' ≡ got_of lane queued_reply

-- these answers and bytes are those of the replies that were taken from the queue
pub record GetsAll (lane : ReplyLane JobReply) (left : List (Option Left)) (bytes : List ReplyBytes) (lane' : ReplyLane JobReply) : Type 0 where
  pub queued_replies : List (QueuedReply JobReply)
  pub chain : Chain GetsOne lane queued_replies lane'
  pub left_are : left ≡ map (λ queued_reply. queued_reply.reply.left) queued_replies
  pub bytes_are : bytes ≡ map (λ queued_reply. queued_reply.reply.bytes) queued_replies

-- what became of the last reply that was offered
abbrev pub last_of : List Sent → Sent
last_of sents = get_or sents (length sents - 1) Untaken

-- nothing is offered after the link broke
abbrev pub OffersAll : {L : Type 0} → (L → List ℕ → Sent → L → Type 0) → L → List (List ℕ) → (before : Bool) → List Sent → L → (after : Bool) → Type 0
OffersAll sends link frames true sents link' after = (sents ≡ []) × (link' ≡ link) × (after ≡ true)
OffersAll sends link frames false sents link' after = SendsEach sends link frames sents link' × (after ≡ is_broken (last_of sents))

-- whether the reply at that index was taken; one that was not offered was not
abbrev pub taken_at : List Sent → ℕ → Bool
taken_at sents n = is_taken (get_or sents n Untaken)

-- each answer is settled according to what became of its own reply; the first has that index
abbrev pub SettlesEach : List Sent → (place : ℕ) → List (Option Left) → List Ending → Type 0
SettlesEach sents place [] turns = turns ≡ []
SettlesEach sents place (left ∷ lefts) [] = ⊥
SettlesEach sents place (left ∷ lefts) (turn ∷ turns) = IsEnded left (taken_at sents place) turn × SettlesEach sents (suc place) lefts turns

pub record SettlesAll (lefts : List (Option Left)) (sents : List Sent) (all : Endings) : Type 0 where
  pub turns : List Ending
  pub each : SettlesEach sents 0 lefts turns
  pub all_are : AreEndings all turns
