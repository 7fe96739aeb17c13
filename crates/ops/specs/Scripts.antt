-- What each request asks of the directory, and its result.
use Rattle.std.specs.Prelude.{ℕ, ℤ, ◌≡◌, ◌-◌, ◌^◌, nat_le, length, Bool, true, false, not, ◌==◌, ◌&&◌, if◌then◌else◌, is_some, List, [], ◌∷◌, map, Option, Some, None, slice_get}
use Rattle.paths.specs.Hidden.{is_reserved}
use Rattle.errno.specs.declared.TheConstants.{EBUSY, EEXIST, EINVAL, EIO, EISDIR, ENOENT, ENOTDIR}
use Rattle.std.specs.Ordering.{int_eq}
use Rattle.paths.specs.Prefixes.{Names}
use Rattle.payload.specs.declared.attributes.Kind.{Kind}
use Rattle.payload.specs.declared.attributes.Kind.TheVariants as kinds
use Rattle.backing.specs.declared.call.Answer.{Answer}
use Rattle.backing.specs.declared.call.Answer.TheVariants as told
use Rattle.backing.specs.declared.call.Call.{Call}
use Rattle.backing.specs.declared.call.Child.{Child}
use Rattle.backing.specs.declared.call.NewTime.{NewTime}
use Rattle.handles.specs.Listings.{are_lawful}
use Rattle.backing.specs.Calls.{Asked, asked, AskStat, AskList, AskMake, AskMakeDir, AskMakeLink, AskLink, AskRemove, AskRemoveDir, AskRename, AskRenameNew, AskExchange, AskRead, AskReadLink, AskWrite, AskSetLen, AskSetPermissions, AskSetOwner, AskSetTimes, AskSync}
use Rattle.table_steps.specs.Answers.{Claim}
use Rattle.table_steps.specs.declared.data.Outcome.{Outcome}
use Rattle.table_steps.specs.declared.data.Outcome.TheVariants.{Failed, Done, Entry, Entries, Hidden, HiddenMove}
use Rattle.wire.specs.declared.request.Caller.{Caller}
use Rattle.wire.specs.declared.request.Operation.{Operation}
use Rattle.wire.specs.declared.request.Operation.TheVariants as ops
use Rattle.ops.specs.declared.findings.FoundFile.{FoundFile}
use Rattle.ops.specs.declared.findings.ScriptResult.{ScriptResult}
use Rattle.ops.specs.declared.findings.ScriptResult.TheVariants.{Error, Nothing, NewEntry, NewFile, Attributes, Opening, Bytes, Written, Listed, Looked, Hid, Replaced, Unmoved, Kept}
use Rattle.terms.specs.declared.settings.AttributeSource.{AttributeSource}
use Rattle.terms.specs.declared.settings.AttributeSource.TheVariants.{Fixed, Host}
use Rattle.terms.specs.declared.settings.Settings.{Settings}
use Rattle.ops.specs.declared.parts.NewParts.{NewParts}
use Rattle.ops.specs.Parts.{made_with, parts_of}
use Rattle.ops.specs.Judged.{errno_in, judged}

-- ---- the end of a script

-- the outcome for the table, and the result for the reply
pub record End : Type 0 where
  pub outcome : Outcome
  pub findings : ScriptResult

-- the next call and how the plan goes on after each answer, or the end
pub data Plan : Type 0 where
  Ask : (call : Asked) → (next : Answer → Plan) → Plan
  Over : (end : End) → Plan

abbrev pub over : Outcome → ScriptResult → Plan
over outcome findings = Over (record { outcome = outcome; findings = findings })

abbrev pub failed : ℤ → Plan
failed errno = over Failed (Error errno)

-- ---- one call, and how the script goes on if it succeeds; any other answer ends the script with its error

abbrev pub if_done : Plan → Answer → Plan
if_done rest told.Done = rest
if_done rest answer = failed (errno_in answer)

abbrev pub make : Asked → Plan → Plan
make call rest = Ask call (λ answer. if_done rest answer)

abbrev pub if_found : (FoundFile → Plan) → Answer → Plan
if_found rest (told.Stat kind size details) = rest (record { kind = kind; size = size; details = details })
if_found rest answer = failed (errno_in answer)

abbrev pub look : Names → (FoundFile → Plan) → Plan
look p rest = Ask (AskStat p) (λ answer. if_found rest answer)

-- names that are not lawful, or come twice, are an error
abbrev pub listed_end : List Child → End
listed_end children = if are_lawful children then record { outcome = Done; findings = Listed children } else record { outcome = Failed; findings = Error EIO }

abbrev pub if_listed : Answer → Plan
if_listed (told.Names children) = Over (listed_end children)
if_listed answer = failed (errno_in answer)

abbrev pub list : Names → Plan
list p = Ask (AskList p) if_listed

abbrev pub if_read : Answer → Plan
if_read (told.Bytes bytes) = over Done (Bytes bytes)
if_read answer = failed (errno_in answer)

abbrev pub read : Names → (offset size : ℕ) → Plan
read p offset size = Ask (AskRead p offset size) if_read

-- the text of a link
abbrev pub read_link : Names → Plan
read_link p = Ask (AskReadLink p) if_read

abbrev pub if_written : Answer → Plan
if_written (told.Wrote count) = over Done (Written count)
if_written answer = failed (errno_in answer)

abbrev pub write : Names → ℕ → List ℕ → Plan
write p offset piece = Ask (AskWrite p offset piece) if_written

-- ---- the paths of a ticket. A ticket without the paths of its request, which no table makes, gives EIO.

-- that of the node or the name
abbrev pub at_path : List Names → (Names → Plan) → Plan
at_path [] plan = failed EIO
at_path (p ∷ ps) plan = plan p

-- that of the name, and those under which its file may be hidden
abbrev pub at_candidates : List Names → (Names → List Names → Plan) → Plan
at_candidates [] plan = failed EIO
at_candidates (p ∷ ps) plan = plan p ps

-- the source of a move or of a further name, its target, and those under which the file at the target may be hidden
abbrev pub at_paths : List Names → (Names → Names → List Names → Plan) → Plan
at_paths [] plan = failed EIO
at_paths (s ∷ ps) plan = at_candidates ps (λ t candidates. plan s t candidates)

-- ---- the ends of scripts

abbrev pub give_entry : Names → Plan
give_entry p = look p (λ found. over Entry (NewEntry found))

-- whether a file at the path is hidden: its name is one that the server keeps for itself
abbrev pub reserved_in : Option (List ℕ) → Bool
reserved_in None = false
reserved_in (Some name) = is_reserved name

abbrev pub is_hidden : Names → Bool
is_hidden p = reserved_in (slice_get p (length p - 1))

-- what is told of what was found there: a hidden file was removed, so its hidden name is no link that counts
abbrev pub shown_at : Names → FoundFile → FoundFile
shown_at p found = if is_hidden p then record found { details = record found.details { links = found.details.links - 1 } } else found

abbrev pub tell_attributes : Names → Plan
tell_attributes p = look p (λ found. over Done (Attributes (shown_at p found)))

-- only a file is opened
abbrev pub open_end : Kind → End
open_end kinds.Folder = record { outcome = Failed; findings = Error EISDIR }
open_end kinds.File = record { outcome = Done; findings = Opening }
open_end kinds.Link = record { outcome = Failed; findings = Error EINVAL }
open_end (kinds.Special special) = record { outcome = Failed; findings = Error EINVAL }

abbrev pub open_file : Names → Plan
open_file p = look p (λ found. Over (open_end found.kind))

abbrev pub done : Plan
done = over Done Nothing

-- ---- SETATTR: one call for each part, permission bits first, then the owner, the size, and the times

abbrev pub set_permissions : Option ℕ → Names → Plan → Plan
set_permissions None p rest = rest
set_permissions (Some permissions) p rest = make (AskSetPermissions p permissions) rest

abbrev pub set_owner : (uid gid : Option ℕ) → Names → Plan → Plan
set_owner None None p rest = rest
set_owner (Some uid) gid p rest = make (AskSetOwner p (Some uid) gid) rest
set_owner None (Some gid) p rest = make (AskSetOwner p None (Some gid)) rest

abbrev pub set_size : Option ℕ → Names → Plan → Plan
set_size None p rest = rest
set_size (Some size) p rest = make (AskSetLen p size) rest

abbrev pub set_times : (accessed modified : Option NewTime) → Names → Plan → Plan
set_times None None p rest = rest
set_times (Some accessed) modified p rest = make (AskSetTimes p (Some accessed) modified) rest
set_times None (Some modified) p rest = make (AskSetTimes p None (Some modified)) rest

-- what is reported about the node afterwards
abbrev pub set_parts : Names → NewParts → Plan → Plan
set_parts p parts rest =
    set_permissions parts.permissions p (set_owner parts.uid parts.gid p (set_permissions parts.again p (set_size parts.size p (set_times parts.accessed parts.modified p rest))))

-- ---- whose is what was made. With attributes of the host it is the caller's, if the server is user 0, as whom it made
-- it: then the user is set, and the group, unless it is not 0, since a folder whose set-group-ID bit is set gave its own.

abbrev pub uid_owed : Caller → FoundFile → Option ℕ
uid_owed caller found = if found.details.uid == 0 && not (caller.uid == 0) then Some caller.uid else None

abbrev pub gid_owed : Caller → FoundFile → Option ℕ
gid_owed caller found = if found.details.uid == 0 && found.details.gid == 0 && not (caller.gid == 0) then Some caller.gid else None

-- permission bits that a change of the owner clears some of: those with a set-user-ID or set-group-ID bit
abbrev pub cleared : Option ℕ → Option ℕ
cleared None = None
cleared (Some permissions) = if nat_le (2 ^ 10) permissions then Some permissions else None

-- what was made with these permission bits, and found so, is given to a user and a group, if any, and then reported
abbrev pub give_to : (uid gid : Option ℕ) → (permissions : Option ℕ) → Names → (FoundFile → End) → FoundFile → Plan
give_to None None permissions p told found = Over (told found)
give_to uid gid permissions p told found = set_owner uid gid p (set_permissions (cleared permissions) p (look p (λ given. Over (told given))))

-- a Stat of what was made, and its end
abbrev pub give_made : AttributeSource → Caller → (permissions : Option ℕ) → Names → (FoundFile → End) → Plan
give_made (Fixed uid gid) caller permissions p told = look p (λ found. Over (told found))
give_made Host caller permissions p told = look p (λ found. give_to (uid_owed caller found) (gid_owed caller found) permissions p told found)

abbrev pub entry_end : FoundFile → End
entry_end found = record { outcome = Entry; findings = NewEntry found }

abbrev pub file_end : FoundFile → End
file_end found = record { outcome = Entry; findings = NewFile found }

-- ---- requests whose footprints have several forms

-- A Stat of a name that may be free: nothing is there, or something is, or the script ends with another error.
abbrev pub if_free : (free taken : Plan) → Answer → Plan
if_free free taken (told.Stat kind size details) = taken
if_free free taken answer = if int_eq (errno_in answer) ENOENT then free else failed (errno_in answer)

-- An open file is moved to the first candidate at which nothing exists, and what comes after depends on the index of
-- that. There are ten candidates, counted from 0.
abbrev pub hide : Names → List Names → (ℕ → Plan) → Plan
hide p [] rest = failed EBUSY
hide p (c ∷ cs) rest = Ask (AskStat c) (λ answer. if_free (make (AskRename p c) (rest (10 - length (c ∷ cs)))) (hide p cs rest) answer)

abbrev pub unlink : (hides : Bool) → Names → List Names → Plan
unlink true p candidates = hide p candidates (λ i. over (Hidden i) (Hid i))
unlink false p candidates = make (AskRemove p) done

-- The move to the place of a file that was hidden. If it fails, the file stays hidden and nothing is at its place.
abbrev pub if_moved : ℕ → Answer → Plan
if_moved i told.Done = over (HiddenMove i true) (Replaced i)
if_moved i answer = over (HiddenMove i false) (Unmoved i (errno_in answer))

abbrev pub move_after : Names → Names → ℕ → Plan
move_after s t i = Ask (AskRename s t) (λ answer. if_moved i answer)

-- a folder cannot replace a file
abbrev pub unless_folder : Kind → Plan → Plan
unless_folder kinds.Folder rest = failed ENOTDIR
unless_folder kinds.File rest = rest
unless_folder kinds.Link rest = rest
unless_folder (kinds.Special special) rest = rest

-- A file, or whatever else is no folder, is moved to the place of an open file, which is hidden first.
abbrev pub replace : Names → Names → List Names → Plan
replace s t candidates = look s (λ found. unless_folder found.kind (hide t candidates (λ i. move_after s t i)))

-- A move of a path to itself only requires that something is there.
abbrev pub rename : (same hides : Bool) → Names → Names → List Names → Plan
rename true hides s t candidates = look s (λ found. done)
rename false true s t candidates = replace s t candidates
rename false false s t candidates = make (AskRename s t) done

-- A move that replaces nothing: if something is at the target, even if source and target are the same, it is refused.
abbrev pub rename_new : (same : Bool) → Names → Names → Plan
rename_new true s t = look s (λ found. failed EEXIST)
rename_new false s t = make (AskRenameNew s t) done

-- An exchange of a path with itself only requires that something is there.
abbrev pub exchange : (same : Bool) → Names → Names → Plan
exchange true s t = look s (λ found. done)
exchange false s t = make (AskExchange s t) done

-- by the flags of RENAME2; others were refused before
abbrev pub rename_by : (flags : ℕ) → (same hides : Bool) → Names → Names → List Names → Plan
rename_by flags same hides s t candidates =
    if flags == 0 then rename same hides s t candidates else
    if flags == 1 then rename_new same s t else
    if flags == 2 then exchange same s t else failed EIO

-- The client has closed a file that is then removed. It is not told if that fails, and the file is kept.
abbrev pub if_removed : Answer → Plan
if_removed told.Done = done
if_removed answer = over Failed Kept

abbrev pub remove_closed : Names → Plan
remove_closed p = Ask (AskRemove p) if_removed

-- The handle was closed at the begin. If it was the last one of a hidden file, the file is removed; otherwise no call
-- is made, for example if the node has no path.
abbrev pub release : (last : Bool) → List Names → Plan
release true paths = at_path paths (λ p. remove_closed p)
release false paths = done

-- ---- a Stat of each of several paths: a fault means that nothing is there, and does not end the script

abbrev pub found_in : Answer → Option FoundFile
found_in (told.Stat kind size details) = Some (record { kind = kind; size = size; details = details })
found_in answer = None

abbrev pub look_at_each : List Names → (List (Option FoundFile) → Plan) → Plan
look_at_each [] rest = rest []
look_at_each (p ∷ ps) rest = Ask (AskStat p) (λ answer. look_at_each ps (λ founds. rest (found_in answer ∷ founds)))

-- an entry is given if something is there
abbrev pub give_found : List (Option FoundFile) → Plan
give_found founds = over (Entries (map (λ found. is_some found) founds)) (Looked founds)

-- the path of the folder comes before those of its names
abbrev pub at_names : List Names → Plan
at_names [] = failed EIO
at_names (folder ∷ ps) = look_at_each ps give_found

-- ---- the table of scripts

abbrev pub plan_of : Settings → Caller → Operation → Claim → Plan
plan_of settings caller (ops.Lookup name) ticket = at_path ticket.paths (λ p. give_entry p)
plan_of settings caller ops.GetAttr ticket = at_path ticket.paths (λ p. tell_attributes p)
plan_of settings caller (ops.SetAttr valid fh size attributes) ticket = at_path ticket.paths (λ p. set_parts p (parts_of valid size attributes) (tell_attributes p))
plan_of settings caller (ops.MakeDir name mode umask) ticket = at_path ticket.paths (λ p. make (AskMakeDir p (made_with settings.attributes mode umask)) (give_made settings.attributes caller None p entry_end))
plan_of settings caller ops.ReadLink ticket = at_path ticket.paths (λ p. read_link p)
plan_of settings caller (ops.MakeLink name text) ticket = at_path ticket.paths (λ p. make (AskMakeLink p text.now) (give_made settings.attributes caller None p entry_end))
plan_of settings caller (ops.Unlink name) ticket = at_candidates ticket.paths (λ p candidates. unlink ticket.hide p candidates)
plan_of settings caller (ops.RemoveDir name) ticket = at_path ticket.paths (λ p. make (AskRemoveDir p) done)
plan_of settings caller (ops.Rename name new_parent new_name) ticket = at_paths ticket.paths (λ s t candidates. rename ticket.same ticket.hide s t candidates)
plan_of settings caller (ops.Link old_node name) ticket = at_paths ticket.paths (λ s t candidates. make (AskLink s t) (give_entry t))
plan_of settings caller (ops.Open flags) ticket = at_path ticket.paths (λ p. open_file p)
plan_of settings caller (ops.Read fh offset size) ticket = at_path ticket.paths (λ p. read p offset size)
plan_of settings caller (ops.Write fh offset piece) ticket = at_path ticket.paths (λ p. write p offset piece.now)
plan_of settings caller (ops.Release fh) ticket = release ticket.last ticket.paths
plan_of settings caller (ops.Sync fh) ticket = at_path ticket.paths (λ p. make (AskSync p) done)
plan_of settings caller (ops.Create name flags mode umask) ticket = at_path ticket.paths (λ p. make (AskMake p (made_with settings.attributes mode umask)) (give_made settings.attributes caller (made_with settings.attributes mode umask) p file_end))
plan_of settings caller ops.OpenDir ticket = at_path ticket.paths (λ p. list p)
plan_of settings caller (ops.ReadDirPlus fh offset size) ticket = at_names ticket.paths
plan_of settings caller (ops.Rename2 name new_parent flags new_name) ticket = at_paths ticket.paths (λ s t candidates. rename_by flags ticket.same ticket.hide s t candidates)
-- The others make no call.
plan_of settings caller (ops.Forget n) ticket = failed EIO
plan_of settings caller ops.StatFs ticket = failed EIO
plan_of settings caller (ops.Init major minor max_readahead flags) ticket = failed EIO
plan_of settings caller (ops.Flush fh) ticket = failed EIO
plan_of settings caller (ops.ReadDir fh offset size) ticket = failed EIO
plan_of settings caller (ops.ReleaseDir fh) ticket = failed EIO
plan_of settings caller (ops.SyncDir fh) ticket = failed EIO
plan_of settings caller ops.Interrupt ticket = failed EIO
plan_of settings caller ops.Destroy ticket = failed EIO
plan_of settings caller (ops.BatchForget pairs) ticket = failed EIO

-- ---- following a plan

-- a call that was made, and its answer
pub record Made : Type 0 where
  pub call : Asked
  pub answer : Answer

-- Complete lists of calls and answers that the plan leads through, with its end.
abbrev pub Follows : Plan → List Made → End → Type 0
Follows (Over end) [] reached = reached ≡ end
Follows (Over end) (m ∷ ms) reached = ⊥
Follows (Ask call next) [] reached = ⊥
Follows (Ask call next) (m ∷ ms) reached = (m.call ≡ call) × Follows (next (judged call m.answer)) ms reached

-- a plan's next call, and how it goes on after an answer; a plan that is over does not change
abbrev pub next_of : Plan → Option Asked
next_of (Ask call next) = Some call
next_of (Over end) = None

abbrev pub after : Plan → Answer → Plan
after (Ask call next) answer = next (judged call answer)
after (Over end) answer = Over end

-- the call that is returned next is the one that the plan asks for
abbrev pub AsksNext : Option Call → Option Asked → Type 0
AsksNext (Some call) next = next ≡ Some (asked call)
AsksNext None next = next ≡ None
