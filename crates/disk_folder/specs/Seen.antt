-- What a look has shown.
use Rattle.std.specs.Prelude.{ℕ, ◌≡◌, Some, None}
use Rattle.paths.specs.Prefixes.{Names}
use Rattle.backing.specs.declared.call.Answer.{Answer}
use Rattle.backing.specs.declared.call.Answer.TheVariants.{Stat}
use Rattle.payload.specs.declared.attributes.Details.{Details}
use Rattle.payload.specs.declared.attributes.Kind.{Kind}
use Rattle.payload.specs.declared.attributes.Kind.TheVariants as kinds
use Rattle.backing.specs.declared.entries.Item.{Item}
use Rattle.backing.specs.Tree.{Tree, IsFolder, IsNeither, IsNoLink, kind_of, size_of}
use Rattle.disk_folder.specs.declared.look.Seen.{Seen}
use Rattle.disk_folder.specs.declared.trouble.Trouble.{Trouble}
use Rattle.disk_folder.specs.declared.trouble.Trouble.TheVariants.{Refused, Failed}
use Rattle.disk_folder.specs.declared.trouble.Reason.TheVariants.{Nothing, NoFile, NoLink, Folder as IsOne}

-- that stands at q
pub record IsSeen (at : Tree) (q : Names) (seen : Seen) : Type 0 where
  pub item : Item
  pub stands : at q ≡ Some item
  pub kind : seen.kind ≡ kind_of item
  pub size : seen.size ≡ size_of item

-- nothing stands at q, or a call of the system failed
abbrev pub IsMissing : Tree → Names → Trouble → Type 0
IsMissing at q (Refused Nothing) = at q ≡ None
IsMissing at q (Refused reason) = ⊥
IsMissing at q (Failed errno) = Unit {0}

-- what is told of it: no folder has a size
abbrev pub told_by : Kind → ℕ → Details → Answer
told_by kinds.Folder size details = Stat kinds.Folder 0 details
told_by kind size details = Stat kind size details

-- nothing stands at q, or what is no file, or a call of the system failed
abbrev pub IsNoFile : Tree → Names → Trouble → Type 0
IsNoFile at q (Refused Nothing) = at q ≡ None
IsNoFile at q (Refused IsOne) = IsFolder (at q)
IsNoFile at q (Refused NoFile) = IsNeither (at q)
IsNoFile at q (Refused reason) = ⊥
IsNoFile at q (Failed errno) = Unit {0}

-- nothing stands at q, or what is no link, or a call of the system failed
abbrev pub IsUnread : Tree → Names → Trouble → Type 0
IsUnread at q (Refused Nothing) = at q ≡ None
IsUnread at q (Refused NoLink) = IsNoLink (at q)
IsUnread at q (Refused reason) = ⊥
IsUnread at q (Failed errno) = Unit {0}
