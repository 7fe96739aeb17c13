-- What a server does: a session according to the reference, over a link, with a directory and open folders.
use Rattle.std.specs.Prelude.{ℕ, ◌≡◌, ◌⊎◌, List, [], ◌∷◌, ◌++◌, map, Option, Some, None, option_to_list}
use Rattle.paths.specs.Prefixes.{Names}
use Rattle.backing.specs.Calls.{Asked, AskRemove}
use Rattle.backing.specs.declared.call.Answer.{Answer}
use Rattle.wire.specs.Requests.{IsFramed}
use Rattle.wire.specs.Stream.{IsPartial}
use Rattle.wire.specs.Written.{reply_bytes}
use Rattle.engine.specs.declared.ends.SessionEnd.{SessionEnd}
use Rattle.engine.specs.declared.ends.SessionEnd.TheVariants as ends
use Rattle.engine.specs.declared.links.Sent.{Sent}
use Rattle.engine.specs.declared.served.Served.{Served}
use Rattle.handles.specs.Calls.{FolderCall}
use Rattle.terms.specs.declared.settings.Settings.{Settings}
use Rattle.engine.specs.Chain.{Chain}
use Rattle.engine.specs.Links.{Heard, Piece, Ended, Broke, Event, In, Out, Happens}
use Rattle.engine.specs.Reference.{Turn, Offer, Stop, AtEnd, Lost, IsSession, ending, sent_in}
use Rattle.ops.specs.Scripts.{Made}
use Rattle.engine.specs.Tables.{Table}

-- One step of a session: a receive, or a frame that is handled.
pub data Step : Type 0 where
  Hears : (heard : Heard) → Step
  Works : (turn : Turn) → Step

-- ---- the lists of a session, in order

abbrev pub turns_of : List Step → List Turn
turns_of [] = []
turns_of (Hears heard ∷ steps) = turns_of steps
turns_of (Works turn ∷ steps) = turn ∷ turns_of steps

-- the calls of the directory with their answers
abbrev pub made_of : List Turn → List Made
made_of [] = []
made_of (turn ∷ turns) = turn.made ++ made_of turns

-- the calls of the open folders with their answers
abbrev pub folders_of : List Turn → List FolderCall
folders_of [] = []
folders_of (turn ∷ turns) = turn.folders ++ folders_of turns

-- the replies, and what became of each
abbrev pub sent_of : Option Offer → List Event
sent_of None = []
sent_of (Some offer) = Out (reply_bytes offer.reply) offer.sent ∷ []

-- the traffic of the link
abbrev pub events_of : List Step → List Event
events_of [] = []
events_of (Hears heard ∷ steps) = In heard ∷ events_of steps
events_of (Works turn ∷ steps) = sent_of turn.offer ++ events_of steps

-- the bytes that were received
abbrev pub bytes_of : Heard → List ℕ
bytes_of (Piece bytes) = bytes
bytes_of Ended = []
bytes_of Broke = []

abbrev pub heard_of : List Step → List ℕ
heard_of [] = []
heard_of (Hears heard ∷ steps) = bytes_of heard ++ heard_of steps
heard_of (Works turn ∷ steps) = heard_of steps

-- why receiving stopped
abbrev pub stop_in : Heard → List Stop
stop_in (Piece bytes) = []
stop_in Ended = AtEnd ∷ []
stop_in Broke = Lost ∷ []

abbrev pub stops_of : List Step → List Stop
stops_of [] = []
stops_of (Hears heard ∷ steps) = stop_in heard ++ stops_of steps
stops_of (Works turn ∷ steps) = stops_of steps

-- ---- no reply waits for later bytes

-- what may come after a receive
abbrev pub GoesOn : Heard → List Step → Type 0
GoesOn (Piece bytes) steps = Unit {0}
GoesOn Ended steps = steps ≡ []
GoesOn Broke steps = steps ≡ []

-- The kept bytes are handled frame by frame, and more are received only if they begin neither with a whole frame nor
-- with a bad length. Nothing comes after the end of the input, after a link that broke, or after a frame that ended the
-- session.
abbrev pub Paces : (kept : List ℕ) → List Step → (rest : List ℕ) → Type 0
Paces kept [] rest = rest ≡ kept
Paces kept (Hears heard ∷ steps) rest = IsPartial kept × GoesOn heard steps × Paces (kept ++ bytes_of heard) steps rest
Paces kept (Works turn ∷ steps) rest =
    (more : List ℕ) × (kept ≡ turn.frame ++ more) × IsFramed turn.frame
    × ((ending (sent_in turn.offer) turn.destroyed ≡ None) ⊎ (steps ≡ [])) × Paces more steps rest

-- ---- calls of a directory

abbrev pub Gives : {C : Type 0} → (C → Asked → Answer → C → Type 0) → C → Made → C → Type 0
Gives gives old made new = gives old made.call made.answer new

-- each call is made once and in order
abbrev pub Makes : {C : Type 0} → (C → Asked → Answer → C → Type 0) → C → List Made → C → Type 0
Makes gives = Chain (Gives gives)

-- ---- calls of everything that a session serves

-- what a directory and open folders may answer to each call, and which state they may be in afterwards
pub record Behaviour (C D : Type 0) : Type 1 where
  pub gives : C → Asked → Answer → C → Type 0
  pub keeps : D → FolderCall → D → Type 0

abbrev pub does : {C D : Type 0} → (C → Asked → Answer → C → Type 0) → (D → FolderCall → D → Type 0) → Behaviour C D
does gives keeps = record { gives = gives; keeps = keeps }

-- these calls of both, each made once, and in order for each
pub record Draws {C D : Type 0} (does : Behaviour C D) (old : Served C D) (made : List Made) (folders : List FolderCall) (new : Served C D) : Type 0 where
  pub makes : Makes does.gives old.calls made new.calls
  pub keeps : Chain does.keeps old.dirs folders new.dirs

-- ---- the environment of a session

-- what a link may bring, and what may become of bytes that are sent over it
pub record Traffic (L : Type 0) : Type 1 where
  pub receives : L → Heard → L → Type 0
  pub sends : L → List ℕ → Sent → L → Type 0

abbrev pub traffic : {L : Type 0} → (L → Heard → L → Type 0) → (L → List ℕ → Sent → L → Type 0) → Traffic L
traffic receives sends = record { receives = receives; sends = sends }

-- the link, what is served, and the state of the table
pub record Environment (W L C D : Type 0) : Type 0 where
  pub link : L
  pub served : Served C D
  pub at : W

abbrev pub around : {W L C D : Type 0} → L → Served C D → W → Environment W L C D
around link served at = record { link = link; served = served; at = at }

-- ---- what serving guarantees

-- A session ends for lack of memory only after a receive, for whose bytes there may have been no room.
abbrev pub LacksMemory : SessionEnd → List Step → Type 0
LacksMemory ends.Memory steps = (before : List Step) × (bytes : List ℕ) × (steps ≡ before ++ Hears (Piece bytes) ∷ [])
LacksMemory end steps = Unit {0}

-- The client was served according to the reference: the bytes are those that the link brought; the replies were offered
-- and the calls were made, each once and in order.
pub record IsClientRun {W L C D : Type 0} (table : Table W) (settings : Settings) (over : Traffic L) (does : Behaviour C D) (old new : Environment W L C D) (end : SessionEnd) : Type 0 where
  pub steps : List Step
  pub passes : Chain (Happens over.receives over.sends) old.link (events_of steps) new.link
  pub draws : Draws does old.served (made_of (turns_of steps)) (folders_of (turns_of steps)) new.served
  pub kept : List ℕ
  pub paces : Paces [] steps kept
  pub stop : Option Stop
  pub stopped : stops_of steps ≡ option_to_list stop
  pub session : IsSession table settings old.at (heard_of steps) stop (turns_of steps) new.at end
  pub memory : LacksMemory end steps

-- At the end of a session each file that is still hidden is removed by one call, whatever its answer. Whether memory
-- for the list of them was refused is an input: then nothing is removed.
abbrev pub Removes : {W : Type 0} → Table W → W → (listed : Option (List Names)) → List Made → Type 0
Removes table world None removals = removals ≡ []
Removes table world (Some paths) removals = table.leftovers world paths × (map (λ (m : Made). m.call) removals ≡ map (λ path. AskRemove path) paths)

-- each of these files is removed by one call, in order
pub record RemovesAll {C : Type 0} (gives : C → Asked → Answer → C → Type 0) (calls : C) (paths : List Names) (calls' : C) : Type 0 where
  pub removals : List Made
  pub asked : map (λ (m : Made). m.call) removals ≡ map (λ path. AskRemove path) paths
  pub makes : Makes gives calls removals calls'

-- the same, with the calls made once each and in order
pub record RemovesLeft {W C : Type 0} (table : Table W) (gives : C → Asked → Answer → C → Type 0) (calls : C) (world : W) (calls' : C) : Type 0 where
  pub listed : Option (List Names)
  pub removals : List Made
  pub removes : Removes table world listed removals
  pub makes : Makes gives calls removals calls'

-- a client was served, and then the files that it left hidden were removed
pub record IsSessionRun {W L C D : Type 0} (table : Table W) (settings : Settings) (over : Traffic L) (does : Behaviour C D) (old new : Environment W L C D) (end : SessionEnd) : Type 0 where
  pub left : Served C D
  pub client : IsClientRun table settings over does old (around new.link left new.at) end
  pub removal : RemovesLeft table does.gives left.calls new.at new.served.calls
  pub dirs_are : new.served.dirs ≡ left.dirs
