-- The answer to a request, given the result of its script and what its table gave.
use Rattle.std.specs.Prelude.{ℕ, ℤ, ◌+◌, ◌==◌, if◌then◌else◌, List, [], ◌∷◌, drop, slice_get, Option, Some, None, option_and_then}
use Rattle.std.specs.List.{flat_map}
use Rattle.errno.specs.declared.TheConstants.{EBADF, EIO, ENFILE}
use Rattle.backing.specs.declared.call.Child.{Child}
use Rattle.table_files.specs.declared.data.OpenFile.{OpenFile}
use Rattle.table_requests.specs.declared.data.Given.{Given}
use Rattle.handles.specs.Names.{is_dot}
use Rattle.table_steps.specs.Answers.{Answer}
use Rattle.wire.specs.Dirents.{PlusDirent, plus_bytes}
use Rattle.wire.specs.declared.reply.Attributes.{Attributes}
use Rattle.payload.specs.declared.attributes.Details.{Details}
use Rattle.payload.specs.declared.attributes.Time.{Time}
use Rattle.wire.specs.declared.reply.Entry.{Entry}
use Rattle.payload.specs.declared.attributes.Kind.{Kind}
use Rattle.payload.specs.declared.attributes.Kind.TheVariants.{File, Folder, Link, Special}
use Rattle.wire.specs.declared.reply.ReplyBody.{ReplyBody}
use Rattle.wire.specs.declared.reply.ReplyBody.TheVariants as body
use Rattle.ops.specs.declared.findings.FoundFile.{FoundFile}
use Rattle.ops.specs.declared.findings.ScriptResult.{ScriptResult}
use Rattle.ops.specs.declared.findings.ScriptResult.TheVariants as findings
use Rattle.terms.specs.declared.settings.AttributeSource.{AttributeSource}
use Rattle.terms.specs.declared.settings.AttributeSource.TheVariants.{Fixed, Host}
use Rattle.terms.specs.declared.settings.Settings.{Settings}
use Rattle.ops.specs.Pages.{Paged}

-- ---- attributes, from each of the two sources

-- the beginning of 1970
abbrev pub epoch : Time
epoch = record { seconds = 0; nanos = 0 }

-- everyone may enter a folder, and only its owner may change it; of a link permissions say nothing
abbrev pub fixed_permissions : Kind → ℕ
fixed_permissions Folder = 493  -- 0o755
fixed_permissions File = 420  -- 0o644
fixed_permissions Link = 511  -- 0o777
fixed_permissions (Special special) = 420  -- 0o644

-- a folder has its name, and `.` in itself
abbrev pub fixed_links : Kind → ℕ
fixed_links Folder = 2
fixed_links File = 1
fixed_links Link = 1
fixed_links (Special special) = 1

-- the inode number is that of the node
abbrev pub fixed_details : (uid gid node : ℕ) → Kind → Details
fixed_details uid gid node kind = record { ino = node; permissions = fixed_permissions kind; links = fixed_links kind; uid = uid; gid = gid; accessed = epoch; modified = epoch; changed = epoch }

abbrev pub details_of : AttributeSource → (node : ℕ) → FoundFile → Details
details_of (Fixed uid gid) node found = fixed_details uid gid node found.kind
details_of Host node found = found.details

abbrev pub attributes_of : Settings → (node : ℕ) → FoundFile → Attributes
attributes_of s node found = record { kind = found.kind; size = found.size; details = details_of s.attributes node found }

abbrev pub entry_of : Settings → FoundFile → Given → Entry
entry_of s found given = record { node = given.number; generation = given.generation; attributes = attributes_of s given.number found }

-- the first in a list of optional items
abbrev pub first : {X : Type 0} → List (Option X) → Option X
first xs = option_and_then (λ x. x) (slice_get xs 0)

abbrev pub entry_reply : Settings → FoundFile → Option Given → ReplyBody
entry_reply s found (Some given) = body.Entry (entry_of s found given)
entry_reply s found None = body.Failed EIO

-- the handle, or the error if there is none
abbrev pub handle_reply : ℤ → Option ℕ → ReplyBody
handle_reply errno (Some fh) = body.Opened fh
handle_reply errno None = body.Failed errno

-- a listing that was stored, or not
abbrev pub opened_reply : Option ℕ → ReplyBody
opened_reply put = handle_reply ENFILE put

-- an entry and a handle
abbrev pub created_reply : Settings → FoundFile → Option Given → Option ℕ → ReplyBody
created_reply s found (Some given) (Some fh) = body.Created (entry_of s found given) fh
created_reply s found given opened = body.Failed EIO

-- whether the file under a handle is one of the node
abbrev pub file_reply : ℕ → Option OpenFile → ReplyBody
file_reply node None = body.Failed EBADF
file_reply node (Some file) = if file.number == node then body.Done else body.Failed EBADF

-- ---- entries of a page, from an index on

-- an entry if something was found and given, otherwise one of zeros, with the listing's kind
abbrev pub plus_entry : Settings → (next : ℕ) → Child → Option FoundFile → Option Given → PlusDirent
plus_entry s next child (Some found) (Some given) = record { entry = Some (entry_of s found given); next = next; kind = found.kind; name = child.name }
plus_entry s next child found given = record { entry = None; next = next; kind = child.kind; name = child.name }

-- `.` and `..` have entries of zeros, since they are not looked up
abbrev pub plus_from : Settings → ℕ → List Child → List (Option FoundFile) → List (Option Given) → List PlusDirent
plus_from s at [] founds givens = []
plus_from s at (child ∷ children) founds givens =
    if is_dot child.name then plus_entry s (at + 1) child None None ∷ plus_from s (at + 1) children founds givens
    else plus_entry s (at + 1) child (first founds) (first givens) ∷ plus_from s (at + 1) children (drop 1 founds) (drop 1 givens)

abbrev pub entries_bytes : Settings → ℕ → List Child → List (Option FoundFile) → List (Option Given) → List ℕ
entries_bytes s at children founds givens = flat_map plus_bytes (plus_from s at children founds givens)

-- ---- the reply to a request about that node, which may return a page; a listing was stored under a handle, or not

abbrev pub reply_to : Settings → ℕ → Paged → ScriptResult → (put : Option ℕ) → Answer → ReplyBody
reply_to s node page (findings.Error errno) put answer = body.Failed errno
reply_to s node page findings.Nothing put answer = body.Done
reply_to s node page (findings.NewEntry found) put answer = entry_reply s found (first answer.given)
reply_to s node page (findings.NewFile found) put answer = created_reply s found (first answer.given) answer.opened
reply_to s node page (findings.Attributes found) put answer = body.Attributes (attributes_of s node found)
reply_to s node page findings.Opening put answer = handle_reply EIO answer.opened
reply_to s node page (findings.Bytes bytes) put answer = body.Data bytes
reply_to s node page (findings.Written size) put answer = body.Wrote size
reply_to s node page (findings.Listed children) put answer = opened_reply put
reply_to s node page (findings.Hid candidate) put answer = body.Done
reply_to s node page (findings.Replaced candidate) put answer = body.Done
reply_to s node page (findings.Unmoved candidate errno) put answer = body.Failed errno
reply_to s node page findings.Kept put answer = body.Done
reply_to s node page (findings.Looked founds) put answer = body.Data (entries_bytes s page.from page.entries founds answer.given)
