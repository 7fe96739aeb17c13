-- How a call on a folder ended, and what stands below the folder then.
use Rattle.std.specs.Prelude.{◌≡◌, List, Option, Some, None, Result, Ok, Err}
use Rattle.backing.specs.declared.call.Answer.{Answer}
use Rattle.backing.specs.Tree.{Tree}
use Rattle.backing.specs.Calls.{Asked, Test, tests_of, PassesAll, Refuses, Does, Works}
use Rattle.backing.specs.Device.{DoesPart}
use Rattle.disk_folder.specs.declared.trouble.Trouble.{Trouble}
use Rattle.disk_folder.specs.declared.trouble.Trouble.TheVariants.{Refused, Failed}
use Rattle.disk_folder.specs.Troubles.{reason_errno}

-- The system failed: nothing is done, or the first bytes of a write are, or all of it.
pub data Fails (old : Tree) (call : Asked) (new : Tree) : Type 0 where
  Before : (same : new ≡ old) → Fails old call new
  Within : (passes : PassesAll old (tests_of None call)) → (part : DoesPart old call new) → Fails old call new
  After : (own : Answer) → (works : Works None old call own new) → Fails old call new

-- It did its work; or the first test that fails gave the error; or the system failed.
abbrev pub Ends : Tree → Asked → Result Answer Trouble → Tree → Type 0
Ends old call (Ok answer) new = PassesAll old (tests_of None call) × Does old call answer new
Ends old call (Err (Refused reason)) new = Refuses old (tests_of None call) (reason_errno reason) × (new ≡ old)
Ends old call (Err (Failed errno)) new = Fails old call new

-- it ended so; or nothing is answered, and nothing is changed
abbrev pub EndsOrStays : Tree → Asked → Option (Result Answer Trouble) → Tree → Type 0
EndsOrStays old call (Some result) new = Ends old call result new
EndsOrStays old call None new = new ≡ old

-- the tree refuses these tests, or the system failed
abbrev pub IsRefused : Tree → List Test → Trouble → Type 0
IsRefused at tests (Refused reason) = Refuses at tests (reason_errno reason)
IsRefused at tests (Failed errno) = Unit {0}
