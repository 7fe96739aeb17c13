-- What a request needs before its script can run.
use Rattle.std.specs.Prelude.{ℕ, ℤ, ◌+◌, ◌*◌, ◌^◌, ◌%◌, ◌==◌, ◌&&◌, ◌||◌, nat_le, Bool, true, false, if◌then◌else◌, List, [], ◌∷◌, length, Option, Some, None}
use Rattle.std.specs.Int.{bit_at}
use Rattle.std.specs.List.{list_any}
use Rattle.errno.specs.declared.TheConstants.{EPERM, ENOENT, EINVAL, ENAMETOOLONG, ENOSYS}
use Rattle.table_files.specs.declared.data.Access.{Access}
use Rattle.table_files.specs.declared.data.Access.TheVariants.{Reading, Writing, Both}
use Rattle.table_files.specs.declared.data.Need.{Need}
use Rattle.table_files.specs.declared.data.Need.TheVariants as need
use Rattle.table_requests.specs.declared.data.Want.{Want}
use Rattle.table_requests.specs.declared.data.Want.TheVariants as wants
use Rattle.paths.specs.Hidden.{is_reserved}
use Rattle.wire.specs.declared.reply.ReplyBody.{ReplyBody}
use Rattle.wire.specs.declared.reply.ReplyBody.TheVariants.{Failed, StatFs}
use Rattle.wire.specs.Faults.{fault_errno}
use Rattle.wire.specs.Pairs.{pairs_in}
use Rattle.wire.specs.Requests.{opcode_of}
use Rattle.wire.specs.declared.fault.WireFault.{WireFault}
use Rattle.wire.specs.declared.fault.WireFault.TheVariants as faults
use Rattle.wire.specs.declared.opcode.TheConstants.{LINK, READLINK, SYMLINK}
use Rattle.wire.specs.declared.pairs.ForgetOne.{ForgetOne}
use Rattle.wire.specs.declared.request.Request.{Request}
use Rattle.wire.specs.declared.request.Operation.{Operation}
use Rattle.wire.specs.declared.request.Operation.TheVariants as ops
use Rattle.ops.specs.declared.intents.FolderUse.{FolderUse}
use Rattle.ops.specs.declared.intents.FolderUse.TheVariants as uses
use Rattle.ops.specs.declared.intents.Intent.{Intent as Coded}
use Rattle.ops.specs.declared.intents.Intent.TheVariants as coded
use Rattle.terms.specs.declared.settings.AttributeSource.{AttributeSource}
use Rattle.terms.specs.declared.settings.AttributeSource.TheVariants.{Fixed, Host}
use Rattle.terms.specs.declared.settings.Kinds.{Kinds}
use Rattle.terms.specs.declared.settings.Kinds.TheVariants as kinds
use Rattle.terms.specs.declared.settings.Settings.{Settings}
use Rattle.ops.specs.declared.wanted.Wanted.{Wanted}
use Rattle.ops.specs.declared.wanted.Wanted.TheVariants as wanted

pub data Intent : Type 0 where
  Reply : (body : ReplyBody) → Intent  -- it is answered at once
  Begin : (want : Want) → Intent  -- it begins with a want
  File : (fh : ℕ) → Intent  -- it asks whether a file of its node is open under a handle, and needs no script
  Folder : (fh : ℕ) → (usage : FolderUse) → Intent  -- it uses the folder that is open under a handle
  Forget : (lookups : List ForgetOne) → Intent  -- it forgets lookups, one after another, and is not answered
  Nothing : Intent  -- the session handles it itself, or it is ignored

abbrev pub refused : ℤ → Intent
refused errno = Reply (Failed errno)

-- ---- links, which not all settings show

abbrev pub hides_links : Kinds → Bool
hides_links kinds.Plain = true
hides_links kinds.All = false

-- an opcode of links, where the settings show none
abbrev pub is_unserved : Settings → (opcode : ℕ) → Bool
is_unserved s opcode = (opcode == READLINK || opcode == SYMLINK || opcode == LINK) && hides_links s.kinds

-- the error for a frame with that fault. One that is whole, and whose opcode is not served, is told that alone.
abbrev pub refusal_errno : Settings → (opcode : ℕ) → WireFault → ℤ
refusal_errno s opcode faults.Frame = fault_errno faults.Frame
refusal_errno s opcode fault = if is_unserved s opcode then ENOSYS else fault_errno fault

-- ---- reserved names

-- the names of an operation, and the error if one of them is reserved
abbrev pub names_of : Operation → List (List ℕ)
names_of (ops.Lookup name) = name.now ∷ []
names_of (ops.MakeDir name mode umask) = name.now ∷ []
names_of (ops.MakeLink name text) = name.now ∷ []
names_of (ops.Link old_node name) = name.now ∷ []
names_of (ops.Unlink name) = name.now ∷ []
names_of (ops.RemoveDir name) = name.now ∷ []
names_of (ops.Rename name new_parent new_name) = name.now ∷ new_name.now ∷ []
names_of (ops.Create name flags mode umask) = name.now ∷ []
names_of (ops.Rename2 name new_parent flags new_name) = name.now ∷ new_name.now ∷ []
names_of operation = []

abbrev pub reserved_errno : Operation → ℤ
reserved_errno (ops.Lookup name) = ENOENT
reserved_errno operation = EPERM

-- ---- SETATTR

-- bit 3 is for the size, bit 6 for a handle, and bit 9 for a lock owner
abbrev pub sets_size : ℕ → Bool
sets_size valid = bit_at valid 3 == 1

abbrev pub has_handle : ℕ → Bool
has_handle valid = bit_at valid 6 == 1

-- any other bit
abbrev pub sets_details : ℕ → Bool
sets_details valid = if valid == 2 ^ 3 * bit_at valid 3 + 2 ^ 6 * bit_at valid 6 + 2 ^ 9 * bit_at valid 9 then false else true

-- A bit for a field that is not set: with attributes of the host, bits from 11 on. Bit 10, the time of change, is
-- ignored there.
abbrev pub sets_other : AttributeSource → ℕ → Bool
sets_other (Fixed uid gid) valid = sets_details valid
sets_other Host valid = nat_le (2 ^ 11) valid

-- the access that a handle must have: with attributes of the host, writing only if the size is set
abbrev pub needed_to_set : AttributeSource → ℕ → Need
needed_to_set (Fixed uid gid) valid = need.Writing
needed_to_set Host valid = if sets_size valid then need.Writing else need.Any

-- ---- open files

-- the two lowest bits of an open's flags
abbrev pub access_of : ℕ → Option Access
access_of flags =
    if flags % 4 == 0 then Some Reading else
    if flags % 4 == 1 then Some Writing else
    if flags % 4 == 2 then Some Both else None

abbrev pub open_intent : ℕ → Option Access → Intent
open_intent node (Some access) = Begin (wants.Open node access)
open_intent node None = refused EINVAL

abbrev pub create_intent : ℕ → List ℕ → Option Access → Intent
create_intent parent name (Some access) = Begin (wants.Create parent name access)
create_intent parent name None = refused EINVAL

-- a link: its text is not empty, and has fewer than 4,096 bytes
abbrev pub link_intent : ℕ → List ℕ → (text : List ℕ) → Intent
link_intent parent name text =
    if length text == 0 then refused ENOENT else
    if nat_le 4096 (length text) then refused ENAMETOOLONG else Begin (wants.Name parent name)

-- a further name for a node, but not for the root, which is a folder
abbrev pub hard_link_intent : ℕ → (parent : ℕ) → List ℕ → Intent
hard_link_intent number parent name = if number == 1 then refused EPERM else Begin (wants.Link number parent name)

-- a move, by the flags of RENAME2: to any name, to a free name, or an exchange
abbrev pub rename_intent : ℕ → List ℕ → ℕ → ℕ → List ℕ → Intent
rename_intent parent name new_parent flags new_name =
    if flags == 0 then Begin (wants.Move parent name new_parent new_name false) else
    if flags == 1 then Begin (wants.Move parent name new_parent new_name true) else
    if flags == 2 then Begin (wants.Exchange parent name new_parent new_name) else refused EINVAL

-- the node, through the handle of an open file
abbrev pub by_handle : ℕ → ℕ → Need → Intent
by_handle node fh needed = Begin (wants.Node node (Some (record { fh = fh; need = needed })))

abbrev pub set_intent : AttributeSource → ℕ → ℕ → ℕ → Intent
set_intent s node valid fh =
    if sets_other s valid then refused EPERM else
    if has_handle valid then by_handle node fh (needed_to_set s valid) else Begin (wants.Node node None)

-- ---- the table of intents, apart from reserved names

abbrev pub intended : Settings → ℕ → Operation → Intent
intended s node (ops.Lookup name) = Begin (wants.Name node name.now)
intended s node (ops.Forget n) = Forget (record { node = node; nlookup = n } ∷ [])
intended s node ops.GetAttr = Begin (wants.Node node None)
intended s node (ops.SetAttr valid fh size attributes) = set_intent s.attributes node valid fh
intended s node (ops.MakeDir name mode umask) = Begin (wants.Name node name.now)
intended s node ops.ReadLink = Begin (wants.Node node None)
intended s node (ops.MakeLink name text) = link_intent node name.now text.now
intended s node (ops.Link old_node name) = hard_link_intent old_node node name.now
intended s node (ops.Unlink name) = Begin (wants.Remove node name.now true)
intended s node (ops.RemoveDir name) = Begin (wants.Remove node name.now false)
intended s node (ops.Rename name new_parent new_name) = Begin (wants.Move node name.now new_parent new_name.now false)
intended s node ops.StatFs = Reply StatFs
intended s node (ops.Init major minor max_readahead flags) = Nothing
intended s node (ops.Open flags) = open_intent node (access_of flags)
intended s node (ops.Read fh offset size) = by_handle node fh need.Reading
intended s node (ops.Write fh offset written) = by_handle node fh need.Writing
intended s node (ops.Release fh) = Begin (wants.Release node fh)
intended s node (ops.Sync fh) = by_handle node fh need.Any
intended s node (ops.Flush fh) = File fh
intended s node (ops.Create name flags mode umask) = create_intent node name.now (access_of flags)
intended s node ops.OpenDir = Begin (wants.Node node None)
intended s node (ops.ReadDir fh offset size) = Folder fh (uses.ReadNames offset size)
intended s node (ops.ReleaseDir fh) = Folder fh uses.GiveUp
intended s node (ops.SyncDir fh) = Folder fh uses.Sync
intended s node ops.Interrupt = Nothing
intended s node ops.Destroy = Nothing
intended s node (ops.BatchForget pairs) = Forget (pairs_in pairs.now)
intended s node (ops.ReadDirPlus fh offset size) = Folder fh (uses.ReadEntries offset size)
intended s node (ops.Rename2 name new_parent flags new_name) = rename_intent node name.now new_parent flags new_name.now

-- Names were checked when the request was read; reserved ones are refused before anything else that is served.
abbrev pub intent : Settings → Request → Intent
intent s q =
    if is_unserved s (opcode_of q.operation) then refused ENOSYS else
    if list_any (λ name. is_reserved name) (names_of q.operation) then refused (reserved_errno q.operation) else intended s q.node q.operation

-- ---- an intent in the code, wherever its names are in memory

abbrev pub want_of : Wanted → Want
want_of (wanted.Node number handle) = wants.Node number handle
want_of (wanted.Name parent name) = wants.Name parent name.now
want_of (wanted.Remove parent name may_hide) = wants.Remove parent name.now may_hide
want_of (wanted.Move parent name new_parent new_name keep) = wants.Move parent name.now new_parent new_name.now keep
want_of (wanted.Exchange parent name new_parent new_name) = wants.Exchange parent name.now new_parent new_name.now
want_of (wanted.Link number parent name) = wants.Link number parent name.now
want_of (wanted.Open number access) = wants.Open number access
want_of (wanted.Create parent name access) = wants.Create parent name.now access
want_of (wanted.Release number fh) = wants.Release number fh

abbrev pub intent_in : Coded → Intent
intent_in (coded.Reply body) = Reply body
intent_in (coded.Want wanted) = Begin (want_of wanted)
intent_in (coded.File fh) = File fh
intent_in (coded.Folder fh usage) = Folder fh usage
intent_in (coded.Forget lookups) = Forget (lookups ∷ [])
intent_in (coded.ForgetAll pairs) = Forget (pairs_in pairs.now)
intent_in coded.Nothing = Nothing

-- it has a name, which must be copied
abbrev pub HasName : Wanted → Type 0
HasName (wanted.Node number handle) = ⊥
HasName (wanted.Open number access) = ⊥
HasName (wanted.Release number fh) = ⊥
HasName wanted = Unit {0}
