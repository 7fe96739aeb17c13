-- What the reader queues: the frames that it receives, each with the verdict whether a version was agreed on before it.
use Rattle.std.specs.Prelude.{ℕ, ◌≡◌, ◌⊎◌, Bool, List, [], ◌∷◌, ◌++◌, length, Option, Some, None}
use Rattle.terms.specs.declared.settings.Names.TheVariants.{Bytes}
use Rattle.wire.specs.Faults.{IsFirstFault}
use Rattle.wire.specs.NextFrame.{IsWhole}
use Rattle.wire.specs.Requests.{IsFramed, IsRequest, opcode_in}
use Rattle.wire.specs.Stream.{BeginsBadly, IsPartial}
use Rattle.wire.specs.declared.fault.WireFault.{WireFault}
use Rattle.wire.specs.declared.greeting.Negotiated.{Negotiated}
use Rattle.wire.specs.declared.request.Request.{Request}
use Rattle.engine.specs.Classes.{class}
use Rattle.engine.specs.Links.{Heard, Piece, Ended, Broke}
use Rattle.engine.specs.Reference.{agrees, negotiated_by}
use Rattle.engine.specs.declared.classes.Class.{Class}
use Rattle.engine.specs.declared.classes.Class.TheVariants.{Ignored, Unexpected, InitFrame, DestroyFrame, Asking}
use Rattle.engine.specs.declared.ends.SessionEnd.{SessionEnd}
use Rattle.engine.specs.declared.ends.SessionEnd.TheVariants as ends

-- whether a version is agreed on by the answer to an INIT, or was before
abbrev pub greeted : Option Negotiated → (before : Bool) → Bool
greeted None before = before
greeted (Some answer) before = agrees answer before

-- whether a version is agreed on after a frame: only by a valid INIT, when none was agreed on before. INIT and DESTROY
-- have no names, so they are the same requests whichever names a session takes
abbrev pub VerdictBy : Class → (before : Bool) → List ℕ → (now : Bool) → Type 0
VerdictBy Ignored before frame now = now ≡ before
VerdictBy Unexpected before frame now = now ≡ before
VerdictBy InitFrame before frame now =
    ((q : Request) × IsRequest Bytes frame q × (now ≡ greeted (negotiated_by q.operation) before))
    ⊎ ((fault : WireFault) × IsFirstFault Bytes frame fault × (now ≡ before))
VerdictBy DestroyFrame before frame now = now ≡ before
VerdictBy Asking before frame now = now ≡ before

abbrev pub IsVerdict : (before : Bool) → List ℕ → (now : Bool) → Type 0
IsVerdict before frame now = VerdictBy (class before (opcode_in frame)) before frame now

-- the client ends the session with it
pub record EndsSession (agreed : Bool) (frame : List ℕ) : Type 0 where
  pub class_is : class agreed (opcode_in frame) ≡ DestroyFrame
  pub request : Request
  pub is_request : IsRequest Bytes frame request

-- a frame that was queued, with the verdict
pub record Queued : Type 0 where
  pub agreed : Bool
  pub frame : List ℕ

-- these frames come next in the bytes, each whole and none of them the last of its session, and each with its verdict
abbrev pub Queues : (kept : List ℕ) → (agreed : Bool) → List Queued → (rest : List ℕ) → (now : Bool) → Type 0
Queues kept agreed [] rest now = (rest ≡ kept) × (now ≡ agreed)
Queues kept agreed (job ∷ jobs) rest now =
    (job.agreed ≡ agreed) × IsFramed job.frame × (EndsSession agreed job.frame → ⊥)
    × ((mid : List ℕ) × (next : Bool) × (kept ≡ job.frame ++ mid) × IsVerdict agreed job.frame next × Queues mid next jobs rest now)

-- How far a reader is with what it received: the bytes that are in no frame yet; those that came after them and could
-- not be kept with them; the verdict so far; what it has queued; the frame that ended the session, if one did; and the
-- one that the queue returned, if it did. Everything received is in one of these.
pub record Progress : Type 0 where
  pub kept : List ℕ
  pub unkept : List ℕ
  pub agreed : Bool
  pub put : List Queued
  pub last_job : Option Queued
  pub handed_back : Option Queued

-- the frames that are reported and not queued
pub record Tells (new : Progress) (last_job handed_back : Option Queued) : Type 0 where
  pub last_job_is : new.last_job ≡ last_job
  pub handed_back_is : new.handed_back ≡ handed_back

-- there is no copy of the next whole frame, and everything is kept
pub record LacksCopy (rest : List ℕ) (old new : Progress) : Type 0 where
  pub len : ℕ
  pub whole : IsWhole rest len
  pub kept_is : new.kept ≡ rest
  pub tells : Tells new old.last_job old.handed_back

-- the next frame was returned by the queue, and what comes after it is kept
pub record IsHandedBack (rest : List ℕ) (old new : Progress) : Type 0 where
  pub frame : List ℕ
  pub front : rest ≡ frame ++ new.kept
  pub framed : IsFramed frame
  pub other : EndsSession new.agreed frame → ⊥
  pub tells : Tells new old.last_job (Some (record { agreed = new.agreed; frame = frame }))

-- why no more is queued, if these bytes come next; the frames reported so far are the old ones
abbrev pub Stops : (rest : List ℕ) → (old : Progress) → Option SessionEnd → Progress → Type 0
Stops rest old None new = (new.kept ≡ rest) × IsPartial rest × Tells new old.last_job old.handed_back
Stops rest old (Some (ends.Closed len)) new = ⊥
-- the frame that ends the session comes next
Stops rest old (Some ends.Destroyed) new =
    (frame : List ℕ) × (rest ≡ frame ++ new.kept) × EndsSession new.agreed frame × Tells new (Some (record { agreed = new.agreed; frame = frame })) old.handed_back
Stops rest old (Some (ends.BadLength len)) new = (new.kept ≡ rest) × BeginsBadly rest len × Tells new old.last_job old.handed_back
-- a link breaks only at a receive
Stops rest old (Some ends.LinkBroken) new = ⊥
-- the returned frame shows which of both it was
Stops rest old (Some ends.Memory) new = LacksCopy rest old new ⊎ IsHandedBack rest old new
Stops rest old (Some ends.NoWorkers) new = ⊥

-- these bytes are processed: which jobs are put into the queue
pub record QueuesAll (old : Progress) (end : Option SessionEnd) (new : Progress) : Type 0 where
  pub jobs : List Queued
  pub rest : List ℕ
  pub queued : new.put ≡ old.put ++ jobs
  pub queues : Queues old.kept old.agreed jobs rest new.agreed
  pub stops : Stops rest old end new
  pub unkept_is : new.unkept ≡ old.unkept

-- so far
pub record Queueing (old new : Progress) : Type 0 where
  pub done : List Queued
  pub queued : new.put ≡ old.put ++ done
  pub onwards : (jobs : List Queued) (rest : List ℕ) (then' : Bool) → Queues new.kept new.agreed jobs rest then' → Queues old.kept old.agreed (done ++ jobs) rest then'
  pub tells : Tells new old.last_job old.handed_back
  pub unkept_is : new.unkept ≡ old.unkept

-- these bytes come after those that came before
abbrev pub and_then : Progress → List ℕ → Progress
and_then old bytes = record { kept = old.kept ++ (old.unkept ++ bytes); unkept = []; agreed = old.agreed; put = old.put; last_job = old.last_job; handed_back = old.handed_back }

-- the same, if they could not be kept
abbrev pub with_unkept : Progress → List ℕ → Progress
with_unkept old bytes = record { kept = old.kept; unkept = old.unkept ++ bytes; agreed = old.agreed; put = old.put; last_job = old.last_job; handed_back = old.handed_back }

-- Why bytes could not be kept: a length that no frame may have comes before them, or memory was refused, which only the
-- allocator knows.
abbrev pub KeepsNone : (kept : List ℕ) → Option SessionEnd → Type 0
KeepsNone kept None = ⊥
KeepsNone kept (Some (ends.Closed len)) = ⊥
KeepsNone kept (Some ends.Destroyed) = ⊥
KeepsNone kept (Some (ends.BadLength len)) = ∥ BeginsBadly kept len ∥₁
KeepsNone kept (Some ends.LinkBroken) = ⊥
KeepsNone kept (Some ends.Memory) = Unit {0}
KeepsNone kept (Some ends.NoWorkers) = ⊥

-- one receive, and what was queued after it; at the end of the input the number of kept bytes is reported
abbrev pub ReadsAs : Heard → Progress → Option SessionEnd → Progress → Type 0
ReadsAs (Piece bytes) old end new = QueuesAll (and_then old bytes) end new ⊎ (KeepsNone old.kept end × (new ≡ with_unkept old bytes))
ReadsAs Ended old end new = (end ≡ Some (ends.Closed (length old.kept))) × (new ≡ old)
ReadsAs Broke old end new = (end ≡ Some ends.LinkBroken) × (new ≡ old)

-- the state of a reader: its link, and how far it is
pub record Reading (L : Type 0) : Type 0 where
  pub link : L
  pub so_far : Progress

pub record Reads {L : Type 0} (receives : L → Heard → L → Type 0) (old : Reading L) (end : Option SessionEnd) (new : Reading L) : Type 0 where
  pub heard : Heard
  pub brought : receives old.link heard new.link
  pub reads : ReadsAs heard old.so_far end new.so_far

-- ---- one receive after another

-- any number of receives, none of which ended the session
pub data ReadsOn {L : Type 0} (receives : L → Heard → L → Type 0) (old : Reading L) : Reading L → Type 0 where
  stays : (new : Reading L) → new ≡ old → ReadsOn receives old new
  goes : (mid new : Reading L) → ReadsOn receives old mid → Reads receives mid None new → ReadsOn receives old new

-- until one ended it like this
pub record ReadsAll {L : Type 0} (receives : L → Heard → L → Type 0) (old : Reading L) (end : SessionEnd) (new : Reading L) : Type 0 where
  pub last : Reading L
  pub on : ReadsOn receives old last
  pub ends : Reads receives last (Some end) new
