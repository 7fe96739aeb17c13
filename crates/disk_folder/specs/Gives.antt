-- What the calls of a folder give, for a disk of which nothing is known, and for an honest one.
use Rattle.std.specs.Prelude.{ℕ, ◌≡◌, ◌||◌, Bool, true, false, Result, Ok, Err, None}
use Rattle.paths.specs.Prefixes.{Names}
use Rattle.backing.specs.declared.call.Answer.{Answer}
use Rattle.backing.specs.declared.call.Answer.TheVariants.{Done, Fault}
use Rattle.backing.specs.declared.told.Told.{Told}
use Rattle.backing.specs.Calls.{Asked, AskExchange, AskLink}
use Rattle.backing.specs.Device.{Counted}
use Rattle.backing.specs.Tree.{Tree}
use Rattle.disk.specs.Answers.{AddsName}
use Rattle.disk.specs.declared.stat.Change.{Change}
use Rattle.disk_folder.specs.declared.trouble.Trouble.{Trouble}
use Rattle.disk_folder.specs.declared.trouble.Trouble.TheVariants.{Refused, Failed}
use Rattle.errno.specs.declared.TheConstants.{EINVAL}
use Rattle.disk_folder.specs.Attributes.{Lasts}
use Rattle.disk_folder.specs.Explained.{Tells}
use Rattle.disk_folder.specs.Troubles.{reason_errno}

-- what a disk claims: whether it is honest, what stands below its folder, what was set there, and what was brought to the disk
pub record Claims (D : Type 0) : Type 1 where
  pub honest : Type 0
  pub tree : D → Tree
  pub has_set : D → Names → Change → Type 0
  pub has_synced : D → Names → Type 0

abbrev pub claims : {D : Type 0} → Type 0 → (D → Tree) → (D → Names → Change → Type 0) → (D → Names → Type 0) → Claims D
claims honest tree has_set has_synced = record { honest = honest; tree = tree; has_set = has_set; has_synced = has_synced }

-- whether the call is a LINK that was granted
abbrev pub is_granted : Asked → Answer → Bool
is_granted (AskLink s t) Done = true
is_granted call answer = false

-- It is none.
abbrev pub IsUnlinked : Asked → Result Answer Trouble → Type 0
IsUnlinked call (Ok answer) = is_granted call answer ≡ false
IsUnlinked call (Err trouble) = Unit {0}

-- what a LINK that is granted does to the tree
abbrev pub Granted : Tree → Asked → Tree → Type 0
Granted old (AskLink s t) new = AddsName old s t new
Granted old call new = Unit {0}

-- A folder is a disk, how many calls have failed, and whether a LINK was granted.
abbrev pub IsNew : {D : Type 0} → D × ℕ × Bool → Type 0
IsNew folder = (folder.1 ≡ 0) × (folder.2 ≡ false)

-- A call of a folder. It tells what any folder may. Over an honest disk, as long as no LINK was granted, it is a call on the tree that
-- stands in the folder, through a device that may fail; what is told to be set, or to be brought to the disk, is; and the first LINK that
-- is granted shows what stands at the one path at the other one too.
pub record Gives {D : Type 0} (disk : Claims D) (old : D × ℕ × Bool) (call : Asked) (answer : Answer) (new : D × ℕ × Bool) : Type 0 where
  pub tells : Tells old.1 call answer new.1
  pub linked : new.2 ≡ (old.2 || is_granted call answer)
  pub known : disk.honest → new.2 ≡ false → Counted None (disk.tree old.0) old.1 call answer (disk.tree new.0) new.1
  pub lasts : disk.honest → new.2 ≡ false → answer ≡ Done → Lasts (disk.has_set new.0) (disk.has_synced new.0) call
  pub granted : disk.honest → old.2 ≡ false → answer ≡ Done → Granted (disk.tree old.0) call (disk.tree new.0)

-- the answer, and whether it is a failure: a refusal may be told as one
abbrev pub IsTold : Result Answer Trouble → Told → Type 0
IsTold (Ok answer) told = (told.answer ≡ answer) × (told.failed ≡ false)
IsTold (Err (Refused reason)) told = told.answer ≡ Fault (reason_errno reason)
IsTold (Err (Failed errno)) told = (told.answer ≡ Fault errno) × (told.failed ≡ true)

-- An exchange ended so, whatever stands there.
abbrev pub IsUndone : Asked → Result Answer Trouble → Type 0
IsUndone (AskExchange s t) ended = ended ≡ Err (Failed EINVAL)
IsUndone call ended = Unit {0}
