-- The reference for a session: one frame after another, each handled before the next.
use Rattle.std.specs.Prelude.{ℕ, ℤ, ◌≡◌, ◌⊎◌, Bool, true, false, if◌then◌else◌, List, [], ◌++◌, map, length, Option, Some, None}
use Rattle.std.specs.Option.{option_map}
use Rattle.errno.specs.declared.TheConstants.{EIO, ENOMEM, EPROTO}
use Rattle.table_files.specs.declared.data.OpenFile.{OpenFile}
use Rattle.table_requests.specs.declared.data.Want.{Want}
use Rattle.table_requests.specs.declared.data.Want.TheVariants as wants
use Rattle.table_steps.specs.Answers.{Claim, Answer}
use Rattle.table_steps.specs.declared.data.Begin.TheVariants.{Go, Refused}
use Rattle.table_steps.specs.declared.data.Outcome.TheVariants as outcomes
use Rattle.terms.specs.declared.settings.Names.TheVariants as any
use Rattle.wire.specs.Faults.{IsFirstFault, fault_errno}
use Rattle.wire.specs.Negotiation.{negotiated}
use Rattle.wire.specs.Requests.{IsRequest, opcode_in, unique_in}
use Rattle.wire.specs.Stream.{Splits, IsPartial, BeginsBadly}
use Rattle.wire.specs.declared.fault.WireFault.{WireFault}
use Rattle.wire.specs.declared.greeting.Negotiated.{Negotiated}
use Rattle.wire.specs.declared.greeting.Negotiated.TheVariants.{Use, Again, Refuse}
use Rattle.wire.specs.declared.reply.Reply.{Reply}
use Rattle.wire.specs.declared.reply.ReplyBody.{ReplyBody}
use Rattle.wire.specs.declared.reply.ReplyBody.TheVariants.{Failed, Done, Init}
use Rattle.wire.specs.declared.request.Operation.{Operation}
use Rattle.wire.specs.declared.request.Operation.TheVariants as ops
use Rattle.wire.specs.declared.pairs.ForgetOne.{ForgetOne}
use Rattle.wire.specs.declared.request.Request.{Request}
use Rattle.engine.specs.declared.classes.Class.{Class}
use Rattle.engine.specs.declared.classes.Class.TheVariants.{Ignored, Unexpected, InitFrame, DestroyFrame, Asking}
use Rattle.engine.specs.declared.links.Sent.{Sent}
use Rattle.engine.specs.declared.links.Sent.TheVariants.{Taken, Untaken, Broken}
use Rattle.terms.specs.declared.settings.Settings.{Settings}
use Rattle.engine.specs.declared.ends.SessionEnd.{SessionEnd}
use Rattle.engine.specs.declared.ends.SessionEnd.TheVariants as ends
use Rattle.engine.specs.Chain.{Chain}
use Rattle.engine.specs.Classes.{class, is_unanswered}
use Rattle.handles.specs.Calls.{FolderCall}
use Rattle.engine.specs.Folders.{IsUsed, GivesUp, LacksListing, LendsFor, PutsListing}
use Rattle.ops.specs.declared.findings.ScriptResult.{ScriptResult}
use Rattle.ops.specs.declared.findings.ScriptResult.TheVariants as findings
use Rattle.ops.specs.declared.intents.FolderUse.{FolderUse}
use Rattle.ops.specs.Ahead.{LooksAtEach}
use Rattle.ops.specs.Pages.{Paged, no_page, page_want}
use Rattle.ops.specs.Intents.{Intent, intent, refusal_errno}
use Rattle.ops.specs.Intents as intents
use Rattle.engine.specs.Replies.{TakesMemory}
use Rattle.ops.specs.Replies.{file_reply, reply_to}
use Rattle.ops.specs.Scripts.{plan_of, End, Made, Follows}
use Rattle.engine.specs.Tables.{Table}

-- ---- one frame and its results

-- where memory was refused first
pub data Place : Type 0 where
  AtBegin : Place  -- when the request began, or earlier
  AtScript : Place
  AtListing : Place
  AtReply : Place

-- a reply, and what became of it
pub record Offer : Type 0 where
  pub reply : Reply
  pub sent : Sent

-- a frame; where memory was refused for it; the calls of the directory and of the open folders that it made, with their
-- answers; the reply; and whether the client ended the session with it
pub record Turn : Type 0 where
  pub frame : List ℕ
  pub refused : Option Place
  pub made : List Made
  pub folders : List FolderCall
  pub offer : Option Offer
  pub destroyed : Bool

abbrev pub is_taken : Sent → Bool
is_taken Taken = true
is_taken Untaken = false
is_taken Broken = false

abbrev pub is_broken : Sent → Bool
is_broken Taken = false
is_broken Untaken = false
is_broken Broken = true

abbrev pub sent_in : Option Offer → Option Sent
sent_in offer = option_map (λ (o : Offer). o.sent) offer

abbrev pub was_taken : Option Sent → Bool
was_taken None = false
was_taken (Some sent) = is_taken sent

abbrev pub was_broken : Option Sent → Bool
was_broken None = false
was_broken (Some sent) = is_broken sent

-- this reply and no other is offered
abbrev pub Offers : Option Offer → ℕ → ReplyBody → Type 0
Offers None unique said = ⊥
Offers (Some offer) unique said = offer.reply ≡ record { unique = unique; body = said }

-- What is sent if this reply is meant: if memory for it was refused, ENOMEM is sent instead.
abbrev pub IsSaid : Option Place → (meant said : ReplyBody) → Type 0
IsSaid None meant said = said ≡ meant
IsSaid (Some AtBegin) meant said = ⊥
IsSaid (Some AtScript) meant said = ⊥
IsSaid (Some AtListing) meant said = ⊥
IsSaid (Some AtReply) meant said = TakesMemory meant × (said ≡ Failed ENOMEM)

-- the same for a request that has begun; if memory for its script or its listing was refused, it is ENOMEM
abbrev pub IsTold : Option Place → (meant said : ReplyBody) → Type 0
IsTold (Some AtScript) meant said = said ≡ Failed ENOMEM
IsTold (Some AtListing) meant said = said ≡ Failed ENOMEM
IsTold refused meant said = IsSaid refused meant said

-- a frame that makes no call of the directory, makes these of the open folders, and changes nothing
pub record Says {W : Type 0} (folders : List FolderCall) (unique : ℕ) (said : ReplyBody) (old : W) (turn : Turn) (new : W) : Type 0 where
  pub offers : Offers turn.offer unique said
  pub no_call : turn.made ≡ []
  pub folders_are : turn.folders ≡ folders
  pub same : new ≡ old

-- it is answered at once
abbrev pub Answers : {W : Type 0} → ℕ → ReplyBody → W → Turn → W → Type 0
Answers unique meant old turn new = (said : ReplyBody) × IsSaid turn.refused meant said × Says [] unique said old turn new

-- a frame that gets no reply
pub record IsSilent (turn : Turn) : Type 0 where
  pub no_offer : turn.offer ≡ None
  pub no_call : turn.made ≡ []
  pub no_folder : turn.folders ≡ []
  pub no_place : turn.refused ≡ None

-- a request that uses an open folder, is answered at once, and changes nothing in the table
pub record UsesFolder {W : Type 0} (q : Request) (fh : ℕ) (usage : FolderUse) (old : W) (turn : Turn) (new : W) : Type 0 where
  pub meant : ReplyBody
  pub used : IsUsed q.node fh usage turn.folders meant
  pub said : ReplyBody
  pub said_is : IsSaid turn.refused meant said
  pub offers : Offers turn.offer q.unique said
  pub no_call : turn.made ≡ []
  pub same : new ≡ old

-- the listing of an OPENDIR is stored, unless memory for it was refused
abbrev pub Stores : Option Place → ℕ → ScriptResult → List FolderCall → (put : Option ℕ) → Type 0
Stores (Some AtListing) node finding folders put = LacksListing node finding folders put
Stores refused node finding folders put = PutsListing node finding folders put

-- if memory for its listing or its reply was refused, a request counts as untaken
abbrev pub taken_of : Option Place → Option Offer → Bool
taken_of None offer = was_taken (sent_in offer)
taken_of (Some place) offer = false

-- names, or a page of them, are copied before it begins, which allocates
abbrev pub HasNames : Want → Type 0
HasNames (wants.Node number handle) = ⊥
HasNames (wants.Open number access) = ⊥
HasNames (wants.Release number fh) = ⊥
HasNames want = Unit {0}

-- The calls of a request that has begun, and their result. If memory for its script was refused, it makes none and
-- fails.
abbrev pub Plays : Settings → Option Place → Request → Claim → List Made → End → Type 0
Plays settings (Some AtScript) q ticket made end = LooksAtEach q.operation × (made ≡ []) × (end ≡ record { outcome = outcomes.Failed; findings = findings.Error ENOMEM })
Plays settings refused q ticket made end = Follows (plan_of settings q.caller q.operation ticket) made end

-- ---- the state of a session: the table, whether a version is agreed on, and how it has ended, if it has

pub record At (W : Type 0) : Type 0 where
  pub world : W
  pub agreed : Bool
  pub end : Option SessionEnd

abbrev pub starting : {W : Type 0} → W → At W
starting world = record { world = world; agreed = false; end = None }

-- A reply that broke the link ends the session, even if it answered a DESTROY; otherwise DESTROY ends it.
abbrev pub ending : Option Sent → (destroyed : Bool) → Option SessionEnd
ending sent destroyed = if was_broken sent then Some ends.LinkBroken else (if destroyed then Some ends.Destroyed else None)

-- the session goes on, and nothing new is agreed on
pub record Stays (before : Bool) (turn : Turn) (now : Bool) : Type 0 where
  pub lives : turn.destroyed ≡ false
  pub agreed : now ≡ before

-- ---- INIT

abbrev pub negotiated_by : Operation → Option Negotiated
negotiated_by (ops.Init major minor max_readahead flags) = Some (negotiated major minor max_readahead flags)
negotiated_by operation = None

abbrev pub init_reply_of : Negotiated → ReplyBody
init_reply_of (Use out) = Init out
init_reply_of (Again out) = Init out
init_reply_of Refuse = Failed EPROTO

-- Whether a version is agreed on then, whatever becomes of the reply, also where it finds no memory.
abbrev pub agrees : Negotiated → (before : Bool) → Bool
agrees (Use out) before = true
agrees (Again out) before = before
agrees Refuse before = before

abbrev pub HandlesInit : {W : Type 0} → ℕ → Option Negotiated → (before : Bool) → W → Turn → W → (now : Bool) → Type 0
HandlesInit unique None before old turn new now = ⊥
HandlesInit unique (Some answer) before old turn new now = Answers unique (init_reply_of answer) old turn new × (now ≡ agrees answer before)

-- ---- the rules, in terms of the table's steps

-- lookups of one node after another are forgotten
abbrev pub ForgetsAll : {W : Type 0} → Table W → W → List ForgetOne → W → Type 0
ForgetsAll {W = W} table = Chain (λ (old : W) (lookups : ForgetOne) (new : W). table.forgets old lookups.node lookups.nlookup new)

-- a request that is to begin with a want, after these calls of the open folders, and that returns this page
pub record Attempt : Type 0 where
  pub q : Request
  pub want : Want
  pub lends : List FolderCall
  pub page : Paged

abbrev pub attempt : Request → Want → List FolderCall → Paged → Attempt
attempt q want lends page = record { q = q; want = want; lends = lends; page = page }

-- a request that has begun, with the page that it returns and its ticket
pub record Begun : Type 0 where
  pub q : Request
  pub page : Paged
  pub ticket : Claim

abbrev pub begun_with : Request → Paged → Claim → Begun
begun_with q page ticket = record { q = q; page = page; ticket = ticket }

module _ {W : Type 0} (table : Table W) (settings : Settings) where
  -- a request whose script has ended is finished, answered and settled, with these calls of the open folders
  pub record IsConcluded (b : Begun) (refused : Option Place) (end : End) (folders : List FolderCall) (old : W) (offer : Option Offer) (new : W) : Type 0 where
    pub answer : Answer
    pub finished : W
    pub finishes : table.finishes old b.ticket.id end.outcome answer finished
    pub put : Option ℕ
    pub first : List FolderCall
    pub stores : Stores refused b.q.node end.findings first put
    pub said : ReplyBody
    pub said_is : IsTold refused (reply_to settings b.q.node b.page end.findings put answer) said
    pub offers : Offers offer b.q.unique said
    pub settles : table.settles finished answer put (taken_of refused offer) new
    pub last : List FolderCall
    pub gives_up : GivesUp (taken_of refused offer) put last
    pub folders_are : folders ≡ first ++ last

  -- a request from begin to settle
  pub record RunsRequest (a : Attempt) (old : W) (turn : Turn) (new : W) : Type 0 where
    pub ticket : Claim
    pub begun : W
    pub begins : table.begins old a.q.unique a.want (Go ticket) begun
    pub end : End
    pub script : Plays settings turn.refused a.q ticket turn.made end
    pub more : List FolderCall
    pub concluded : IsConcluded (begun_with a.q a.page ticket) turn.refused end more begun turn.offer new
    pub known : table.knows concluded.answer
    pub folders_are : turn.folders ≡ a.lends ++ more

  -- the table refuses it
  pub record IsRefused (a : Attempt) (old : W) (turn : Turn) (new : W) : Type 0 where
    pub errno : ℤ
    pub begins : table.begins old a.q.unique a.want (Refused errno) new
    pub says : Says a.lends a.q.unique (Failed errno) new turn new

  -- No other request is in flight, so there is no conflict. Memory can be refused at its begin only if names are copied
  -- for it.
  abbrev pub WorksOff : Option Place → Attempt → W → Turn → W → Type 0
  WorksOff None a old turn new = IsRefused a old turn new ⊎ RunsRequest a old turn new
  WorksOff (Some AtBegin) a old turn new = HasNames a.want × Says a.lends a.q.unique (Failed ENOMEM) old turn new
  WorksOff (Some AtScript) a old turn new = RunsRequest a old turn new
  WorksOff (Some AtListing) a old turn new = RunsRequest a old turn new
  WorksOff (Some AtReply) a old turn new = RunsRequest a old turn new

  -- a request that returns entries of an open folder, and begins
  abbrev pub TellsEntries : Request → (fh : ℕ) → FolderUse → W → Turn → W → Type 0
  TellsEntries q fh usage old turn new =
      (lends : List FolderCall) × (page : Paged) × LendsFor q.node fh usage lends page × WorksOff turn.refused (attempt q (page_want q.node page.entries) lends page) old turn new

  abbrev pub Serves : Request → Intent → W → Turn → W → Type 0
  Serves q (intents.Reply meant) old turn new = Answers q.unique meant old turn new
  Serves q (intents.Begin want) old turn new = WorksOff turn.refused (attempt q want [] no_page) old turn new
  Serves q (intents.File fh) old turn new = (file : Option OpenFile) × (found : W) × table.finds old fh file found × Answers q.unique (file_reply q.node file) found turn new
  Serves q (intents.Folder fh usage) old turn new = UsesFolder q fh usage old turn new ⊎ TellsEntries q fh usage old turn new
  Serves q (intents.Forget lookups) old turn new = IsSilent turn × ForgetsAll table old lookups new
  Serves q intents.Nothing old turn new = IsSilent turn × (new ≡ old)

  -- a frame that is answered with this error
  abbrev pub Refuses : ℤ → W → Turn → W → Type 0
  Refuses errno old turn new = Answers (unique_in turn.frame) (Failed errno) old turn new

  -- A frame that is not a request is answered with its fault, if its opcode is answered at all. Where the session does
  -- not serve the opcode it is ENOSYS, whatever is wrong with the body, as a request of that opcode is (`intent`).
  abbrev pub Faults : (unanswered : Bool) → WireFault → W → Turn → W → Type 0
  Faults true fault old turn new = IsSilent turn × (new ≡ old)
  Faults false fault old turn new = Refuses (refusal_errno settings (opcode_in turn.frame) fault) old turn new

  abbrev pub Asks : W → Turn → W → Type 0
  Asks old turn new =
      ((q : Request) × IsRequest settings.names turn.frame q × Serves q (intent settings q) old turn new)
      ⊎ ((fault : WireFault) × IsFirstFault settings.names turn.frame fault × Faults (is_unanswered (opcode_in turn.frame)) fault old turn new)

  -- a frame of each class, and whether a version was agreed on before it and is afterwards. INIT and DESTROY have no
  -- names, so they are the same requests whichever names a session takes
  abbrev pub HandlesFrame : (before : Bool) → Class → W → Turn → W → (now : Bool) → Type 0
  HandlesFrame before Ignored old turn new now = IsSilent turn × (new ≡ old) × Stays before turn now
  HandlesFrame before Unexpected old turn new now = Refuses EIO old turn new × Stays before turn now
  HandlesFrame before InitFrame old turn new now =
      (turn.destroyed ≡ false)
      × (((q : Request) × IsRequest any.Bytes turn.frame q × HandlesInit q.unique (negotiated_by q.operation) before old turn new now)
      ⊎ ((fault : WireFault) × IsFirstFault any.Bytes turn.frame fault × Refuses (fault_errno fault) old turn new × (now ≡ before)))
  HandlesFrame before DestroyFrame old turn new now =
      (now ≡ before)
      × (((q : Request) × IsRequest any.Bytes turn.frame q × Answers q.unique Done old turn new × (turn.destroyed ≡ true))
      ⊎ ((fault : WireFault) × IsFirstFault any.Bytes turn.frame fault × Refuses (fault_errno fault) old turn new × (turn.destroyed ≡ false)))
  HandlesFrame before Asking old turn new now = Asks old turn new × Stays before turn now

  pub record IsTurn (old : At W) (turn : Turn) (new : At W) : Type 0 where
    pub goes : old.end ≡ None
    pub meets : HandlesFrame old.agreed (class old.agreed (opcode_in turn.frame)) old.world turn new.world new.agreed
    pub end : new.end ≡ ending (sent_in turn.offer) turn.destroyed
    pub idle : table.is_idle new.world

-- ---- how a session ends

-- why receiving stopped, if the session was not over before
pub data Stop : Type 0 where
  AtEnd : Stop
  Lost : Stop

abbrev pub frames_of : List Turn → List (List ℕ)
frames_of turns = map (λ turn. turn.frame) turns

-- A frame ended the session, and the frames after it are dropped; or all frames were handled, and then the input ended,
-- the link broke, or the next length was one that no frame may have; or memory for the next bytes was refused.
abbrev pub Closes : Option SessionEnd → SessionEnd → Option Stop → (dropped : List (List ℕ)) → (rest : List ℕ) → Type 0
Closes (Some reached) end stop dropped rest = (end ≡ reached) × (stop ≡ None)
Closes None (ends.Closed len) stop dropped rest = (stop ≡ Some AtEnd) × (dropped ≡ []) × IsPartial rest × (len ≡ length rest)
Closes None ends.Destroyed stop dropped rest = ⊥
Closes None (ends.BadLength len) stop dropped rest = (stop ≡ None) × (dropped ≡ []) × BeginsBadly rest len
Closes None ends.LinkBroken stop dropped rest = (stop ≡ Some Lost) × (dropped ≡ []) × IsPartial rest
Closes None ends.Memory stop dropped rest = stop ≡ None
Closes None ends.NoWorkers stop dropped rest = ⊥

-- ---- a whole session

-- Inputs: the bytes received, and why receiving stopped. Outputs: the frames that were handled, with their calls and
-- replies, the last state of the table, and the end. Between two frames no request is in flight.
pub record IsSession {W : Type 0} (table : Table W) (settings : Settings) (world : W) (heard : List ℕ) (stop : Option Stop) (turns : List Turn) (last : W) (end : SessionEnd) : Type 0 where
  pub fresh : table.is_idle world
  pub dropped : List (List ℕ)
  pub rest : List ℕ
  pub frames : Splits heard (frames_of turns ++ dropped) rest
  pub reached : At W
  pub run : Chain (IsTurn table settings) (starting world) turns reached
  pub last_is : last ≡ reached.world
  pub closes : Closes reached.end end stop dropped rest
