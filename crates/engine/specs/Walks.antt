-- How far the code of a session is, and what it has done.
use Rattle.std.specs.Prelude.{ℕ, ◌≡◌, ◌⊎◌, Bool, true, false, is_some, map, List, ◌++◌, Option, Some, None}
use Rattle.backing.specs.declared.call.Child.{Child}
use Rattle.errno.specs.declared.TheConstants.{ENOMEM}
use Rattle.table_steps.specs.declared.data.Outcome.TheVariants.{Done}
use Rattle.table_steps.specs.declared.data.Outcome.TheVariants as outcomes
use Rattle.ops.specs.declared.findings.FoundFile.{FoundFile}
use Rattle.ops.specs.declared.findings.ScriptResult.{ScriptResult}
use Rattle.ops.specs.declared.findings.ScriptResult.TheVariants as findings
use Rattle.std.specs.Borrow.{Bor}
use Rattle.table_requests.specs.declared.data.Want.{Want}
use Rattle.terms.specs.declared.settings.Names.TheVariants as any
use Rattle.wire.specs.Faults.{IsFirstFault, fault_errno}
use Rattle.wire.specs.Requests.{IsFramed, IsRequest, opcode_in, unique_in}
use Rattle.wire.specs.Stream.{BeginsBadly, IsPartial}
use Rattle.wire.specs.Written.{reply_bytes}
use Rattle.wire.specs.declared.fault.WireFault.{WireFault}
use Rattle.wire.specs.declared.greeting.Negotiated.{Negotiated}
use Rattle.wire.specs.declared.reply.Reply.{Reply}
use Rattle.wire.specs.declared.reply.ReplyBody.{ReplyBody}
use Rattle.wire.specs.declared.request.Request.{Request}
use Rattle.engine.specs.declared.ends.SessionEnd.{SessionEnd}
use Rattle.engine.specs.declared.ends.SessionEnd.TheVariants as ends
use Rattle.engine.specs.declared.links.Sent.{Sent}
use Rattle.terms.specs.declared.settings.Settings.{Settings}
use Rattle.engine.specs.Chain.{Chain}
use Rattle.engine.specs.Classes.{class}
use Rattle.handles.specs.Calls.{FolderCall}
use Rattle.engine.specs.Folders.{ByCalls, IsUsed, LendsFor}
use Rattle.ops.specs.declared.intents.FolderUse.{FolderUse}
use Rattle.ops.specs.Intents.{want_of}
use Rattle.ops.specs.Pages.{Paged, no_page, page_want}
use Rattle.engine.specs.Links.{Piece, Ended, Broke}
use Rattle.engine.specs.Reference.{At, Attempt, Begun, Place, Turn, Offer, IsConcluded, IsSaid, IsTurn, Asks, HandlesFrame, Plays, WorksOff, agrees, attempt, begun_with, ending, init_reply_of, negotiated_by, sent_in, taken_of}
use Rattle.engine.specs.Replies.{done_reply, refusal}
use Rattle.ops.specs.Scripts.{End, Made}
use Rattle.engine.specs.Serving.{Behaviour, Draws, Environment, Step, Hears, Works, Makes, Traffic, around}
use Rattle.engine.specs.declared.served.Served.{Served}
use Rattle.engine.specs.declared.running.Attempt.{Attempt as Attempted}
use Rattle.engine.specs.declared.running.Begun.{Begun as Going}
use Rattle.engine.specs.declared.running.Source.{Source}
use Rattle.engine.specs.declared.running.Source.TheVariants as sources
use Rattle.engine.specs.Tables.{Table}

-- the link, what is served, the table, and the kept bytes
pub record Side (W L C D : Type 0) : Type 0 where
  pub link : L
  pub served : Served C D
  pub at : At W
  pub kept : List ℕ

-- the table, and whether a version is agreed on
pub record Stand (W : Type 0) : Type 0 where
  pub world : W
  pub agreed : Bool

abbrev pub stand : {W : Type 0} → W → Bool → Stand W
stand world agreed = record { world = world; agreed = agreed }

abbrev pub standing : {W : Type 0} → Stand W → Option SessionEnd → At W
standing s end = record { world = s.world; agreed = s.agreed; end = end }

abbrev pub side : {W L C D : Type 0} → Environment (Stand W) L C D → List ℕ → Side W L C D
side e kept = record { link = e.link; served = e.served; at = standing e.at None; kept = kept }

-- the same, and how the session ended
abbrev pub reaching : {W L C D : Type 0} → Side W L C D → Option SessionEnd → Side W L C D
reaching s end = record s { at = record (s.at) { end = end } }

-- what is offered, if anything
abbrev pub Passes : {L : Type 0} → (L → List ℕ → Sent → L → Type 0) → L → Option Offer → L → Type 0
Passes sends old None new = new ≡ old
Passes sends old (Some offer) new = sends old (reply_bytes offer.reply) offer.sent new

module _ {W L C D : Type 0} (table : Table W) (settings : Settings) (over : Traffic L) (does : Behaviour C D) where
  -- bytes are received
  pub record HearsPiece (old : Side W L C D) (bytes : List ℕ) (new : Side W L C D) : Type 0 where
    pub goes : old.at.end ≡ None
    pub partial : IsPartial old.kept
    pub brought : over.receives old.link (Piece bytes) new.link
    pub rest : new ≡ record old { link = new.link; kept = old.kept ++ bytes }

  -- a frame is handled
  pub record WorksFrame (old : Side W L C D) (turn : Turn) (new : Side W L C D) : Type 0 where
    pub is_turn : IsTurn table settings old.at turn new.at
    pub front : old.kept ≡ turn.frame ++ new.kept
    pub framed : IsFramed turn.frame
    pub draws : Draws does old.served turn.made turn.folders new.served
    pub passes : Passes over.sends old.link turn.offer new.link

  abbrev pub IsStep : Side W L C D → Step → Side W L C D → Type 0
  IsStep old (Hears (Piece bytes)) new = HearsPiece old bytes new
  IsStep old (Hears Ended) new = ⊥
  IsStep old (Hears Broke) new = ⊥
  IsStep old (Works turn) new = WorksFrame old turn new

  pub record Walks (old new : Side W L C D) : Type 0 where
    pub steps : List Step
    pub chain : Chain IsStep old steps new

-- why no further frame is handled: there is no whole one, or the session is over
abbrev pub Stops : Option SessionEnd → Option SessionEnd → List ℕ → Type 0
Stops (Some reached) end kept = end ≡ Some reached
Stops None None kept = IsPartial kept
Stops None (Some (ends.Closed len)) kept = ⊥
Stops None (Some ends.Destroyed) kept = ⊥
Stops None (Some (ends.BadLength len)) kept = BeginsBadly kept len
Stops None (Some ends.LinkBroken) kept = ⊥
Stops None (Some ends.Memory) kept = ⊥
Stops None (Some ends.NoWorkers) kept = ⊥

-- the whole frames are handled
pub record WorksOffFrames {W L C D : Type 0} (table : Table W) (settings : Settings) (over : Traffic L) (does : Behaviour C D) (old new : Side W L C D) (end : Option SessionEnd) : Type 0 where
  pub reached : Option SessionEnd
  pub walks : Walks table settings over does old (reaching new reached)
  pub stops : Stops reached end new.kept

-- an OPENDIR that found these names
abbrev pub listing_found : List Child → End
listing_found children = record { outcome = Done; findings = findings.Listed children }

-- a READDIRPLUS that found this at the names of its page
abbrev pub entries_found : List (Option FoundFile) → End
entries_found founds = record { outcome = outcomes.Entries (map (λ found. is_some found) founds); findings = findings.Looked founds }

-- a request for whose script memory was refused
abbrev pub no_memory : End
no_memory = record { outcome = outcomes.Failed; findings = findings.Error ENOMEM }

-- the result of a script that needs neither a listing nor a page
abbrev pub IsPlain : ScriptResult → Type 0
IsPlain (findings.Listed children) = ⊥
IsPlain (findings.Looked founds) = ⊥
IsPlain finding = Unit {0}

-- a reply that is given at once
pub record IsAnswered {L : Type 0} (sends : L → List ℕ → Sent → L → Type 0) (meant : Reply) (old : L) (sent : Sent) (new : L) : Type 0 where
  pub refused : Option Place
  pub said : ReplyBody
  pub said_is : IsSaid refused meant.body said
  pub offer : sends old (reply_bytes (record { unique = meant.unique; body = said })) sent new

-- an INIT that is answered, and whether a version is agreed on afterwards
pub record RepliesInit {L : Type 0} (sends : L → List ℕ → Sent → L → Type 0) (unique : ℕ) (answer : Negotiated) (before : Bool) (old : L) (sent : Sent) (new : L) (now : Bool) : Type 0 where
  pub told : IsAnswered sends (record { unique = unique; body = init_reply_of answer }) old sent new
  pub agreed : now ≡ agrees answer before

abbrev pub RepliesInitBy : {L : Type 0} → (L → List ℕ → Sent → L → Type 0) → ℕ → Option Negotiated → (before : Bool) → L → Sent → L → (now : Bool) → Type 0
RepliesInitBy sends unique None before old sent new now = ⊥
RepliesInitBy sends unique (Some answer) before old sent new now = RepliesInit sends unique answer before old sent new now

-- a frame that is refused for its fault
pub record IsFaulty {L : Type 0} (sends : L → List ℕ → Sent → L → Type 0) (frame : List ℕ) (old : L) (sent : Sent) (new : L) : Type 0 where
  pub fault : WireFault
  pub first : IsFirstFault any.Bytes frame fault
  pub offer : sends old (reply_bytes (refusal (unique_in frame) (fault_errno fault))) sent new

-- an INIT
abbrev pub HandlesInitFrame : {L : Type 0} → (L → List ℕ → Sent → L → Type 0) → List ℕ → (before : Bool) → L → Sent → L → (now : Bool) → Type 0
HandlesInitFrame sends frame before old sent new now =
    ((q : Request) × IsRequest any.Bytes frame q × RepliesInitBy sends q.unique (negotiated_by q.operation) before old sent new now)
    ⊎ (IsFaulty sends frame old sent new × (now ≡ before))

-- a DESTROY
abbrev pub HandlesDestroy : {L : Type 0} → (L → List ℕ → Sent → L → Type 0) → List ℕ → L → Option SessionEnd → L → Type 0
HandlesDestroy sends frame old end new =
    ((q : Request) × IsRequest any.Bytes frame q × (sent : Sent) × sends old (reply_bytes (done_reply q.unique)) sent new × (end ≡ ending (Some sent) true))
    ⊎ ((sent : Sent) × IsFaulty sends frame old sent new × (end ≡ ending (Some sent) false))

-- a reply that is given, and whether its request is to be settled as taken
pub record RepliesTaken {L : Type 0} (sends : L → List ℕ → Sent → L → Type 0) (meant : Reply) (old : L) (sent : Sent) (taken : Bool) (new : L) : Type 0 where
  pub told : IsAnswered sends meant old sent new
  pub taken_is : taken ≡ taken_of told.refused (Some (record { reply = record { unique = meant.unique; body = told.said }; sent = sent }))

-- ---- requests

-- what a request's answer depends on: the table, what is shown of the folder, and what may become of a reply
pub record Rules (W L : Type 0) : Type 1 where
  pub table : Table W
  pub settings : Settings
  pub sends : L → List ℕ → Sent → L → Type 0

abbrev pub by_rules : {W L : Type 0} → Table W → Settings → (L → List ℕ → Sent → L → Type 0) → Rules W L
by_rules table settings sends = record { table = table; settings = settings; sends = sends }

-- what the code begins with: a want and a page, which a request without entries does not have
abbrev pub want_in : ℕ → Source → Want
want_in node (sources.Frame wanted) = want_of wanted
want_in node (sources.Page page) = page_want node page.now.entries

abbrev pub page_in : Source → Paged
page_in (sources.Frame wanted) = no_page
page_in (sources.Page page) = page.now

abbrev pub page_of : Option (Bor Paged) → Paged
page_of None = no_page
page_of (Some page) = page.now

abbrev pub attempt_with : Attempted → Want → List FolderCall → Attempt
attempt_with a want lends = attempt a.request want lends (page_in a.source)

abbrev pub attempt_of : Attempted → List FolderCall → Attempt
attempt_of a = attempt_with a (want_in a.request.node a.source)

abbrev pub begun_of : Going → Begun
begun_of b = begun_with b.request (page_of b.page) b.ticket

-- the destination of replies, and the state of the table
pub record LinkAndTable (L W : Type 0) : Type 0 where
  pub link : L
  pub world : W

abbrev pub with_table : {L W : Type 0} → L → W → LinkAndTable L W
with_table link world = record { link = link; world = world }

-- a request whose script has made these calls and ended is concluded, with these calls of the open folders
pub record Concludes {W L : Type 0} (rules : Rules W L) (b : Begun) (made : List Made) (end : End) (folders : List FolderCall) (old : LinkAndTable L W) (sent : Sent) (new : LinkAndTable L W) : Type 0 where
  pub refused : Option Place
  pub script : Plays rules.settings refused b.q b.ticket made end
  pub said : ReplyBody
  pub offer : rules.sends old.link (reply_bytes (record { unique = b.q.unique; body = said })) sent new.link
  pub concluded : IsConcluded rules.table rules.settings b refused end folders old.world (Some (record { reply = record { unique = b.q.unique; body = said }; sent = sent })) new.world

module _ {W L C D : Type 0} (rules : Rules W L) (does : Behaviour C D) where
  -- the results of one frame, and whether a version is agreed on before it and afterwards
  pub record IsHandled (frame : List ℕ) (old : Environment (Stand W) L C D) (end : Option SessionEnd) (new : Environment (Stand W) L C D) : Type 0 where
    pub turn : Turn
    pub frame_is : turn.frame ≡ frame
    pub end_is : end ≡ ending (sent_in turn.offer) turn.destroyed
    pub meets : HandlesFrame rules.table rules.settings old.at.agreed (class old.at.agreed (opcode_in turn.frame)) old.at.world turn new.at.world new.at.agreed
    pub draws : Draws does old.served turn.made turn.folders new.served
    pub passes : Passes rules.sends old.link turn.offer new.link

  -- the results of a request of a session that has agreed on a version
  pub record WorkedOff (frame : List ℕ) (old : Environment W L C D) (sent : Option Sent) (new : Environment W L C D) : Type 0 where
    pub turn : Turn
    pub frame_is : turn.frame ≡ frame
    pub sent_is : sent_in turn.offer ≡ sent
    pub lives : turn.destroyed ≡ false
    pub asks : Asks rules.table rules.settings old.at turn new.at
    pub draws : Draws does old.served turn.made turn.folders new.served
    pub passes : Passes rules.sends old.link turn.offer new.link

  -- the script of a request that has begun is played, and the request is concluded
  pub record RunsScript (b : Begun) (old : Environment W L C D) (sent : Sent) (new : Environment W L C D) : Type 0 where
    pub made : List Made
    pub end : End
    pub makes : Makes does.gives old.served.calls made new.served.calls
    pub concludes : ByCalls does.keeps old.served.dirs new.served.dirs (λ folders. Concludes rules b made end folders (with_table old.link old.at) sent (with_table new.link new.at))

  -- a request that begins, whatever its frame
  pub record RunsOut (a : Attempt) (old : Environment W L C D) (sent : Sent) (new : Environment W L C D) : Type 0 where
    pub refused : Option Place
    pub made : List Made
    pub more : List FolderCall
    pub said : ReplyBody
    pub draws : Draws does old.served made more new.served
    pub offer : rules.sends old.link (reply_bytes (record { unique = a.q.unique; body = said })) sent new.link
    pub works : (frame : List ℕ) → WorksOff rules.table rules.settings refused a old.at (record { frame = frame; refused = refused; made = made; folders = a.lends ++ more; offer = Some (record { reply = record { unique = a.q.unique; body = said }; sent = sent }); destroyed = false }) new.at

  -- a request that uses an open folder and is answered at once
  pub record IsUsedBy (q : Request) (fh : ℕ) (usage : FolderUse) (old : Environment W L C D) (sent : Sent) (new : Environment W L C D) : Type 0 where
    pub meant : ReplyBody
    pub uses : ByCalls does.keeps old.served.dirs new.served.dirs (λ folders. IsUsed q.node fh usage folders meant)
    pub told : IsAnswered rules.sends (record { unique = q.unique; body = meant }) old.link sent new.link
    pub calls_are : new.served.calls ≡ old.served.calls
    pub world_is : new.at ≡ old.at

  -- entries of an open folder are returned by a request that begins
  pub record TellsPage (q : Request) (fh : ℕ) (usage : FolderUse) (old : Environment W L C D) (sent : Sent) (new : Environment W L C D) : Type 0 where
    pub page : Paged
    pub lent : D
    pub lends : ByCalls does.keeps old.served.dirs lent (λ folders. LendsFor q.node fh usage folders page)
    pub runs : RunsOut (attempt q (page_want q.node page.entries) lends.folders page) (around old.link (record { calls = old.served.calls; dirs = lent }) old.at) sent new

  -- an open folder is used, whatever the frame of the request
  abbrev pub UsesOut : Request → (fh : ℕ) → FolderUse → Environment W L C D → Sent → Environment W L C D → Type 0
  UsesOut q fh usage old sent new = IsUsedBy q fh usage old sent new ⊎ TellsPage q fh usage old sent new

-- there was a conflict with another request, and nothing was done
pub record IsUntouched {W L C D : Type 0} (old new : Environment W L C D) : Type 0 where
  pub link_is : new.link ≡ old.link
  pub served_is : new.served ≡ old.served
  pub world_is : new.at ≡ old.at
