-- What requests do with open folders.
use Rattle.std.specs.Prelude.{ℕ, ◌≡◌, ◌==◌, ◌⊎◌, Bool, true, false, if◌then◌else◌, List, [], ◌∷◌, Option, Some, None, Ok, Err}
use Rattle.errno.specs.declared.TheConstants.{EBADF, EINVAL}
use Rattle.backing.specs.declared.call.Child.{Child}
use Rattle.handles.specs.Calls.{FolderCall, Put, Lend, Retire, IsLentFor}
use Rattle.handles.specs.Listings.{IsLent, IsMade, OpenFolder}
use Rattle.handles.specs.declared.listing.ListingFault.TheVariants.{Memory}
use Rattle.ops.specs.Folders.{IsPaged, names_reply}
use Rattle.ops.specs.Pages.{Paged}
use Rattle.ops.specs.declared.findings.ScriptResult.{ScriptResult}
use Rattle.ops.specs.declared.findings.ScriptResult.TheVariants as findings
use Rattle.ops.specs.declared.intents.FolderUse.{FolderUse}
use Rattle.ops.specs.declared.intents.FolderUse.TheVariants.{ReadNames, ReadEntries, GiveUp, Sync}
use Rattle.engine.specs.Chain.{Chain}
use Rattle.engine.specs.Replies.{TakesMemory}
use Rattle.engine.specs.declared.folders.FolderAnswer.{FolderAnswer}
use Rattle.engine.specs.declared.folders.FolderAnswer.TheVariants as answers
use Rattle.wire.specs.declared.reply.ReplyBody.{ReplyBody}
use Rattle.wire.specs.declared.reply.ReplyBody.TheVariants.{Failed, Done}

-- these calls, for which this holds, each made once and in order
pub record ByCalls {D : Type 0} (keeps : D → FolderCall → D → Type 0) (old new : D) (holds : List FolderCall → Type 0) : Type 0 where
  pub folders : List FolderCall
  pub chain : Chain keeps old folders new
  pub so : holds folders

-- ---- requests that use an open folder

-- the folder, if it is one of the node
abbrev pub on_node : ℕ → Option OpenFolder → Option OpenFolder
on_node node None = None
on_node node (Some folder) = if folder.number == node then Some folder else None

abbrev pub given_up : Bool → ReplyBody
given_up true = Done
given_up false = Failed EBADF

-- The answer to a request that does not begin, with the further calls. Only a page with room for an entry is returned
-- by a request that begins.
abbrev pub Uses : Option OpenFolder → FolderUse → List FolderCall → (meant : ReplyBody) → Type 0
Uses None usage more meant = (more ≡ []) × (meant ≡ Failed EBADF)
Uses (Some folder) (ReadNames offset size) more meant =
    (more ≡ []) × (page : Option (List Child)) × IsPaged false folder.entries offset size page × (meant ≡ names_reply offset page)
Uses (Some folder) (ReadEntries offset size) more meant = (more ≡ []) × IsPaged true folder.entries offset size None × (meant ≡ Failed EINVAL)
Uses (Some folder) GiveUp more meant = (gone : Bool) × (more ≡ Retire folder.fh gone ∷ []) × (meant ≡ given_up gone)
Uses (Some folder) Sync more meant = (more ≡ []) × (meant ≡ Done)

-- the folder under the handle is lent, and used if it is one of the node
pub record IsUsed (node fh : ℕ) (usage : FolderUse) (folders : List FolderCall) (meant : ReplyBody) : Type 0 where
  pub lent : Option OpenFolder
  pub is_lent : IsLentFor fh lent
  pub more : List FolderCall
  pub folders_are : folders ≡ Lend fh lent ∷ more
  pub uses : Uses (on_node node lent) usage more meant

-- the folder under the handle is lent and is one of the node, and these entries of it are returned
pub record LendsPage (node fh offset size : ℕ) (folders : List FolderCall) (page : Paged) : Type 0 where
  pub folder : OpenFolder
  pub is_lent : IsLent fh folder
  pub on_node : folder.number ≡ node
  pub paged : IsPaged true folder.entries offset size (Some page.entries)
  pub from : page.from ≡ offset
  pub folders_are : folders ≡ Lend fh (Some folder) ∷ []

-- the same for a use: only for READDIRPLUS entries are returned
abbrev pub LendsFor : (node fh : ℕ) → FolderUse → List FolderCall → Paged → Type 0
LendsFor node fh (ReadEntries offset size) folders page = LendsPage node fh offset size folders page
LendsFor node fh usage folders page = ⊥

-- in the code: a page of these entries, or the answer if there is none
abbrev pub PagesOf : List Child → (offset size : ℕ) → FolderAnswer → Type 0
PagesOf entries offset size (answers.Page page) = IsPaged true entries offset size (Some page.entries) × (page.from ≡ offset)
PagesOf entries offset size (answers.Reply meant) = IsPaged true entries offset size None × (meant ≡ Failed EINVAL)

abbrev pub IsAnsweredBy : (node fh : ℕ) → FolderUse → List FolderCall → FolderAnswer → Type 0
IsAnsweredBy node fh usage folders (answers.Page page) = LendsFor node fh usage folders page
IsAnsweredBy node fh usage folders (answers.Reply meant) = IsUsed node fh usage folders meant

-- the same where memory for it was refused
abbrev pub LacksAnswer : (node fh : ℕ) → FolderUse → List FolderCall → Type 0
LacksAnswer node fh usage folders =
    ((page : Paged) × LendsFor node fh usage folders page) ⊎ ((meant : ReplyBody) × IsUsed node fh usage folders meant × TakesMemory meant)

-- ---- OPENDIR

-- the listing of what was found is stored, if names of a folder were
abbrev pub PutsListing : ℕ → ScriptResult → List FolderCall → (put : Option ℕ) → Type 0
PutsListing node (findings.Listed children) folders put = (folder : OpenFolder) × IsMade node children (Ok folder) × (folders ≡ Put folder put ∷ [])
PutsListing node finding folders put = (folders ≡ []) × (put ≡ None)

-- memory for a listing was refused, so none is stored
abbrev pub LacksListing : ℕ → ScriptResult → List FolderCall → (put : Option ℕ) → Type 0
LacksListing node (findings.Listed children) folders put = IsMade node children (Err Memory) × (folders ≡ []) × (put ≡ None)
LacksListing node finding folders put = ⊥

-- the handle of a listing is closed if its request is settled as untaken
abbrev pub GivesUp : (taken : Bool) → (put : Option ℕ) → List FolderCall → Type 0
GivesUp false (Some fh) folders = (gone : Bool) × (folders ≡ Retire fh gone ∷ [])
GivesUp false None folders = folders ≡ []
GivesUp true put folders = folders ≡ []
