-- A tree in memory, which can be made to fail at planned calls.
use Rattle.std.specs.Prelude.{ℕ, ℤ, ◌≡◌, ◌+◌, ◌-◌, ◌^◌, ◌==◌, ◌⊎◌, nat_lt, if◌then◌else◌, List, [], ◌∷◌, Option, Some, None, Result, Ok, Err}
use Rattle.paths.specs.Prefixes.{Names}
use Rattle.backing.specs.declared.call.Answer.{Answer}
use Rattle.backing.specs.declared.call.Answer.TheVariants.{Done, Fault, Wrote}
use Rattle.payload.specs.declared.attributes.Special.{Special}
use Rattle.backing.specs.declared.entries.Item.TheVariants as items
use Rattle.backing.specs.declared.entries.TreeEntry.{TreeEntry}
use Rattle.backing.specs.declared.told.Told.{Told}
use Rattle.errno.specs.declared.TheConstants.{ENOMEM}
use Rattle.backing.specs.declared.plans.Plan.{Plan}
use Rattle.backing.specs.declared.plans.PlannedFault.{PlannedFault as Planned}
use Rattle.backing.specs.declared.plans.PlannedFault.TheVariants as planned
use Rattle.backing.specs.Tree.{Tree, IsTree, with_item}
use Rattle.backing.specs.Calls.{memory_limit, Asked, AskMake, AskMakeDir, AskWrite, PassesAll, Refuses, Works, Starves}
use Rattle.backing.specs.Checks.{free_tests}
use Rattle.backing.specs.Device.{Device, Sound, Before, Within, After, Performs, counted, fails, faulty}
use Rattle.backing.specs.Entries.{tree_of}

-- the state of a memory tree: what is in it, how many calls were made, which of them are planned to fail, and how many
-- failed
pub record Memory : Type 0 where
  pub entries : List TreeEntry
  pub made : ℕ
  pub plans : List Plan
  pub failed : ℕ

abbrev pub memory_tree : Memory → Tree
memory_tree m = tree_of m.entries

-- what the device does with a call for which such a failure is planned
abbrev pub device_of : Planned → Device
device_of (planned.Before errno) = Before errno
device_of (planned.After errno) = After errno

-- what the device does with call n
abbrev pub planned_at : List Plan → ℕ → Device
planned_at [] n = Sound
planned_at (plan ∷ plans) n = if plan.call == n then device_of plan.fault else planned_at plans n

-- what the device does with a call for which this is planned
abbrev pub treated_as : Option Planned → Device
treated_as None = Sound
treated_as (Some fault) = device_of fault

-- What the device does with the call that follows that many. When the count of calls is at its maximum, no more
-- failures come.
abbrev pub next_device : List Plan → ℕ → Device
next_device plans made = if nat_lt made (2 ^ 64 - 1) then planned_at plans (made + 1) else Sound

-- the device lets the tree do its work, whatever the tree answers
abbrev pub LetsWork : Device → Type 0
LetsWork Sound = Unit {0}
LetsWork (Before errno) = ⊥
LetsWork (Within errno) = ⊥
LetsWork (After errno) = Unit {0}

-- The device does as planned; or it let the tree do its work, and memory was refused.
abbrev pub Treats : Tree → Asked → Device → Device → Type 0
Treats old call planned device = (device ≡ planned) ⊎ (LetsWork planned × Starves memory_limit old call × (device ≡ Before ENOMEM))

-- a call for which this was planned: what the device did, and whether it failed
pub record Treated (old : Tree) (planned : Device) (call : Asked) (told : Told) (new : Tree) : Type 0 where
  pub device : Device
  pub treats : Treats old call planned device
  pub performs : Performs memory_limit old device call told.answer new
  pub failed : told.failed ≡ fails device

-- a call and its result: it is the next one for the plans, and each failure is counted
pub record Gives (old : Memory) (call : Asked) (answer : Answer) (new : Memory) : Type 0 where
  pub device : Device
  pub treats : Treats (memory_tree old) call (next_device old.plans old.made) device
  pub performs : Performs memory_limit (memory_tree old) device call answer (memory_tree new)
  pub kept : new ≡ record old { entries = new.entries; made = counted old.made 1; failed = counted old.failed (faulty device) }
  pub old_is_tree : IsTree (memory_tree old)
  pub new_is_tree : IsTree (memory_tree new)

-- the same, with whether the device failed
pub record MakesCall (old : Memory) (call : Asked) (told : Told) (new : Memory) : Type 0 where
  pub gives : Gives old call told.answer new
  pub failed : told.failed ≡ fails gives.device

-- everything except what is in it
pub record SameBut (old new : Memory) : Type 0 where
  pub made : new.made ≡ old.made
  pub plans : new.plans ≡ old.plans
  pub failed : new.failed ≡ old.failed

-- when a folder can be added at that path, and why it cannot
abbrev pub PutsDir : Tree → Names → Result (Unit {0}) ℤ → Tree → Type 0
PutsDir old p (Ok done) new = Works memory_limit old (AskMakeDir p None) Done new
PutsDir old p (Err errno) new = Works memory_limit old (AskMakeDir p None) (Fault errno) new ⊎ (Starves memory_limit old (AskMakeDir p None) × (errno ≡ ENOMEM) × (new ≡ old))

-- when something special can be added at that path, and why it cannot
abbrev pub PutsSpecial : Tree → Names → Special → Result (Unit {0}) ℤ → Tree → Type 0
PutsSpecial old p special (Ok done) new = PassesAll old (free_tests p) × (new ≡ with_item old p (items.Special special))
PutsSpecial old p special (Err errno) new = (Refuses old (free_tests p) errno ⊎ (PassesAll old (free_tests p) × (errno ≡ ENOMEM))) × (new ≡ old)

-- a file is made and then written; if only the write fails, the empty file remains
abbrev pub PutsFile : Tree → Names → List ℕ → Result (Unit {0}) ℤ → Tree → Type 0
PutsFile old p bytes (Ok done) new = (mid : Tree) × Works memory_limit old (AskMake p None) Done mid × ((n : ℕ) × Works memory_limit mid (AskWrite p 0 bytes) (Wrote n) new)
PutsFile old p bytes (Err errno) new = (Works memory_limit old (AskMake p None) (Fault errno) new ⊎ (Starves memory_limit old (AskMake p None) × (errno ≡ ENOMEM) × (new ≡ old))) ⊎ ((mid : Tree) × Works memory_limit old (AskMake p None) Done mid × (Works memory_limit mid (AskWrite p 0 bytes) (Fault errno) new ⊎ (Starves memory_limit mid (AskWrite p 0 bytes) × (errno ≡ ENOMEM) × (new ≡ mid))))
