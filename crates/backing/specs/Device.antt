-- A device that may fail, before a call's work, within it or after it, and counts it.
use Rattle.std.specs.Prelude.{ℕ, ℤ, ◌≡◌, ◌⊎◌, ◌+◌, ◌-◌, ◌^◌, ◌<◌, min, Bool, true, false, List, length, take, Option, Some}
use Rattle.backing.specs.declared.entries.Item.TheVariants.{File}
use Rattle.backing.specs.declared.call.Answer.{Answer}
use Rattle.backing.specs.declared.call.Answer.TheVariants.{Fault}
use Rattle.backing.specs.Files.{written}
use Rattle.backing.specs.Tree.{Tree, with_item}
use Rattle.backing.specs.Calls.{Asked, AskWrite, Works, PassesAll, tests_of}

-- how the device treats a call: an input of the run
pub data Device : Type 0 where
  Sound : Device
  Before : (errno : ℤ) → Device
  Within : (errno : ℤ) → Device
  After : (errno : ℤ) → Device

-- The first bytes of a write, but not all, stand in the file. No other call is done in part.
abbrev pub DoesPart : Tree → Asked → Tree → Type 0
DoesPart old (AskWrite p offset piece) new = (n : ℕ) × (0 < n) × (n < length piece) × ((bytes : List ℕ) × (old p ≡ Some (File bytes)) × (new ≡ with_item old p (File (written bytes offset (take n piece)))))
DoesPart old call new = ⊥

-- The answer and effect of a call on this device. What the tree itself refuses has no work that could be lost.
abbrev pub Performs : Option ℕ → Tree → Device → Asked → Answer → Tree → Type 0
Performs limit old Sound call answer new = Works limit old call answer new
Performs limit old (Before errno) call answer new = (answer ≡ Fault errno) × (new ≡ old)
Performs limit old (Within errno) call answer new = (answer ≡ Fault errno) × PassesAll old (tests_of limit call) × DoesPart old call new
Performs limit old (After errno) call answer new = (answer ≡ Fault errno) × ((own : Answer) × Works limit old call own new)

-- whether it fails
abbrev pub fails : Device → Bool
fails Sound = false
fails (Before errno) = true
fails (Within errno) = true
fails (After errno) = true

abbrev pub one_if : Bool → ℕ
one_if true = 1
one_if false = 0

-- how many failures that is
abbrev pub faulty : Device → ℕ
faulty device = one_if (fails device)

-- a count of 64 bits increased by that much, which stays at its maximum
abbrev pub counted : ℕ → ℕ → ℕ
counted n by = n + min by (2 ^ 64 - 1 - n)

-- A call on a tree through this device. A failure increases the count by one, and nothing else does.
abbrev pub Counted : Option ℕ → Tree → ℕ → Asked → Answer → Tree → ℕ → Type 0
Counted limit old before call answer new after = (device : Device) × Performs limit old device call answer new × (after ≡ counted before (faulty device))

abbrev pub IsFault : Answer → Type 0
IsFault answer = (errno : ℤ) × (answer ≡ Fault errno)

-- The count of failures after a call: unchanged, or increased by one if the call gave a fault.
abbrev pub Counts : ℕ → Answer → ℕ → Type 0
Counts before answer after = (after ≡ before) ⊎ ((after ≡ counted before 1) × IsFault answer)
