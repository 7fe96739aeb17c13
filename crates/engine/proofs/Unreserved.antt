-- A request begins with a want without reserved names: one with such a name is refused before.
use Rattle.std.proofs.Common.{ℕ, ◌==◌, ◌≡◌, Bool, true, false, List, [], ◌∷◌, Option, Some, None, All, get_or, if◌then◌else◌, length, nat_le, refl, sym, ◌∙◌, inl, inr}
use Rattle.std.specs.List.{list_any}
use Rattle.std.proofs.lemmas.Bool.{cases_Bool, true≢false}
use Rattle.std.proofs.lemmas.List.Elements.{All-from_get_or, All-nil}
use Rattle.std.proofs.lemmas.List.Folds.{list_any_at}
use Rattle.errno.specs.declared.TheConstants.{EINVAL, ENAMETOOLONG, ENOENT, ENOSYS, EPERM}
use Rattle.paths.specs.Hidden.{is_reserved}
use Rattle.paths.specs.Prefixes.{Name}
use Rattle.table_files.specs.declared.data.Access.{Access}
use Rattle.table_requests.specs.declared.data.Want.TheVariants as wants
use Rattle.table_hiding.specs.Hiding.{IsUnreserved}
use Rattle.backing.specs.declared.call.Child.{Child}
use Rattle.wire.specs.Requests.{opcode_of}
use Rattle.wire.specs.declared.request.Operation.{Operation}
use Rattle.wire.specs.declared.request.Operation.TheVariants as ops
use Rattle.wire.specs.declared.request.Request.{Request}
use Rattle.terms.specs.declared.settings.AttributeSource.{AttributeSource}
use Rattle.terms.specs.declared.settings.Settings.{Settings}
use Rattle.ops.specs.Intents.{Intent, access_of, by_handle, create_intent, hard_link_intent, has_handle, intended, intent, is_unserved, link_intent, names_of, needed_to_set, open_intent, refused, rename_intent, reserved_errno, set_intent, sets_other}
use Rattle.ops.specs.Intents as intents
use Rattle.ops.specs.Pages.{page_want}

-- if the intent is to begin with a want, none of its names is reserved
abbrev pub IsPlainIntent : Intent → Type 0
IsPlainIntent (intents.Reply body) = Unit {0}
IsPlainIntent (intents.Begin want) = IsUnreserved want
IsPlainIntent (intents.File fh) = Unit {0}
IsPlainIntent (intents.Folder fh usage) = Unit {0}
IsPlainIntent (intents.Forget lookups) = Unit {0}
IsPlainIntent intents.Nothing = Unit {0}

abbrev ArePlain : List Name → Type 0
ArePlain names = All (λ name. is_reserved name ≡ false) names

no_names : ArePlain []
no_names = All-nil (λ (name : Name). is_reserved name ≡ false)

pub page_plain : (folder : ℕ) (entries : List Child) → IsUnreserved (page_want folder entries)
page_plain folder entries = no_names

either : (b : Bool) (i j : Intent) → IsPlainIntent i → IsPlainIntent j → IsPlainIntent (if b then i else j)
either true i j one other = one
either false i j one other = other

set_plain : (s : AttributeSource) (node valid fh : ℕ) → IsPlainIntent (set_intent s node valid fh)
set_plain s node valid fh =
    either (sets_other s valid) (refused EPERM) (if has_handle valid then by_handle node fh (needed_to_set s valid) else intents.Begin (wants.Node node None)) tt
    (either (has_handle valid) (by_handle node fh (needed_to_set s valid)) (intents.Begin (wants.Node node None)) no_names no_names)

open_plain : (node : ℕ) (access : Option Access) → IsPlainIntent (open_intent node access)
open_plain node None = tt
open_plain node (Some access) = no_names

create_plain : (parent : ℕ) (name : Name) (access : Option Access) → ArePlain (name ∷ []) → IsPlainIntent (create_intent parent name access)
create_plain parent name None plain = tt
create_plain parent name (Some access) plain = plain

link_plain : (parent : ℕ) (name : Name) (text : List ℕ) → ArePlain (name ∷ []) → IsPlainIntent (link_intent parent name text)
link_plain parent name text plain =
    let link : Intent = intents.Begin (wants.Name parent name) in
    either (length text == 0) (refused ENOENT) (if nat_le 4096 (length text) then refused ENAMETOOLONG else link) tt (either (nat_le 4096 (length text)) (refused ENAMETOOLONG) link tt plain)

hard_link_plain : (number parent : ℕ) (name : Name) → ArePlain (name ∷ []) → IsPlainIntent (hard_link_intent number parent name)
hard_link_plain number parent name plain = either (number == 1) (refused EPERM) (intents.Begin (wants.Link number parent name)) tt plain

rename_plain : (parent : ℕ) (name : Name) (new_parent flags : ℕ) (new_name : Name) → ArePlain (name ∷ new_name ∷ []) → IsPlainIntent (rename_intent parent name new_parent flags new_name)
rename_plain parent name new_parent flags new_name plain =
    let move : Intent = intents.Begin (wants.Move parent name new_parent new_name false) in
    let keep : Intent = intents.Begin (wants.Move parent name new_parent new_name true) in
    let swap : Intent = intents.Begin (wants.Exchange parent name new_parent new_name) in
    let last : Intent = (if flags == 2 then swap else refused EINVAL) in
    either (flags == 0) move (if flags == 1 then keep else last) plain (either (flags == 1) keep last plain (either (flags == 2) swap (refused EINVAL) plain tt))

intended_plain : (s : Settings) (node : ℕ) (operation : Operation) → ArePlain (names_of operation) → IsPlainIntent (intended s node operation)
intended_plain s node (ops.Lookup name) plain = plain
intended_plain s node (ops.Forget n) plain = tt
intended_plain s node ops.GetAttr plain = no_names
intended_plain s node (ops.SetAttr valid fh size attributes) plain = set_plain s.attributes node valid fh
intended_plain s node ops.ReadLink plain = no_names
intended_plain s node (ops.MakeLink name text) plain = link_plain node name.now text.now plain
intended_plain s node (ops.Link old_node name) plain = hard_link_plain old_node node name.now plain
intended_plain s node (ops.MakeDir name mode umask) plain = plain
intended_plain s node (ops.Unlink name) plain = plain
intended_plain s node (ops.RemoveDir name) plain = plain
intended_plain s node (ops.Rename name new_parent new_name) plain = plain
intended_plain s node ops.StatFs plain = tt
intended_plain s node (ops.Init major minor max_readahead flags) plain = tt
intended_plain s node (ops.Open flags) plain = open_plain node (access_of flags)
intended_plain s node (ops.Read fh offset size) plain = no_names
intended_plain s node (ops.Write fh offset written) plain = no_names
intended_plain s node (ops.Release fh) plain = no_names
intended_plain s node (ops.Sync fh) plain = no_names
intended_plain s node (ops.Flush fh) plain = tt
intended_plain s node (ops.Create name flags mode umask) plain = create_plain node name.now (access_of flags) plain
intended_plain s node ops.OpenDir plain = no_names
intended_plain s node (ops.ReadDir fh offset size) plain = tt
intended_plain s node (ops.ReleaseDir fh) plain = tt
intended_plain s node (ops.SyncDir fh) plain = tt
intended_plain s node ops.Interrupt plain = tt
intended_plain s node ops.Destroy plain = tt
intended_plain s node (ops.BatchForget pairs) plain = tt
intended_plain s node (ops.ReadDirPlus fh offset size) plain = tt
intended_plain s node (ops.Rename2 name new_parent flags new_name) plain = rename_plain node name.now new_parent flags new_name.now plain

none_reserved : (names : List Name) → list_any (λ name. is_reserved name) names ≡ false → ArePlain names
none_reserved names none = All-from_get_or (λ (name : Name). is_reserved name ≡ false) names [] (λ i less. elim (cases_Bool (is_reserved (get_or names i []))) [
  | inl hit ↦ absurd (true≢false (sym (list_any_at (λ (name : Name). is_reserved name) names i [] less hit) ∙ none))
  | inr miss ↦ miss
])

chosen : (b : Bool) (i j : Intent) → IsPlainIntent i → (b ≡ false → IsPlainIntent j) → IsPlainIntent (if b then i else j)
chosen true i j one other = one
chosen false i j one other = other refl

-- a request whose opcode is served
served_plain : (s : Settings) (q : Request) → IsPlainIntent (if list_any (λ name. is_reserved name) (names_of q.operation) then refused (reserved_errno q.operation) else intended s q.node q.operation)
served_plain s q =
    chosen (list_any (λ name. is_reserved name) (names_of q.operation)) (refused (reserved_errno q.operation)) (intended s q.node q.operation) tt
    (λ none. intended_plain s q.node q.operation (none_reserved (names_of q.operation) none))

pub intent_plain : (s : Settings) (q : Request) → IsPlainIntent (intent s q)
intent_plain s q =
    either (is_unserved s (opcode_of q.operation)) (refused ENOSYS) (if list_any (λ name. is_reserved name) (names_of q.operation) then refused (reserved_errno q.operation) else intended s q.node q.operation) tt (served_plain s q)
