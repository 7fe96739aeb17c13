-- When a folder of a disk of which nothing is known may tell a fault.
use Rattle.std.specs.Prelude.{ℕ, ℤ, ◌≡◌, ◌⊎◌, Bool, true, false, List, None}
use Rattle.backing.specs.declared.call.Answer.{Answer}
use Rattle.backing.specs.declared.call.Answer.TheVariants.{Fault}
use Rattle.errno.specs.declared.TheConstants.{EINVAL}
use Rattle.backing.specs.Tree.{Tree, IsTree}
use Rattle.backing.specs.Calls.{Asked, AskExchange, Test, Refuses, tests_of}
use Rattle.backing.specs.Device.{IsFault, counted, one_if}
use Rattle.disk_folder.specs.Suits.{Suits}

-- some tree refuses these tests with that error
pub record Explained (tests : List Test) (errno : ℤ) : Type 0 where
  pub at : Tree
  pub is_tree : IsTree at
  pub refuses : Refuses at tests errno

-- some tree refuses the call with that error
abbrev pub Explains : Asked → ℤ → Type 0
Explains call errno = Explained (tests_of None call) errno

-- what may be told of a call: where nothing failed, an answer that suits it, or a fault by which some tree refuses it; a
-- failure is a fault
abbrev pub Follows : Asked → Bool → Answer → Type 0
Follows call false answer = Suits call answer ⊎ ((errno : ℤ) × (answer ≡ Fault errno) × Explains call errno)
Follows call true answer = IsFault answer

-- An exchange fails, whatever stands there: the standard library has no call of the system for it.
abbrev pub IsUnserved : Asked → Bool → Answer → Type 0
IsUnserved (AskExchange s t) failed answer = (failed ≡ true) × (answer ≡ Fault EINVAL)
IsUnserved call failed answer = Unit {0}

-- a call of a folder of which nothing is known: whether it failed, what it told, and one failure more exactly where it failed
pub record Tells (before : ℕ) (call : Asked) (answer : Answer) (after : ℕ) : Type 0 where
  pub failed : Bool
  pub told : Follows call failed answer
  pub unserved : IsUnserved call failed answer
  pub count : after ≡ counted before (one_if failed)
