-- A run of one tree, of which some calls are those of one request and the others are not.
use Rattle.std.specs.Prelude.{ℕ, ◌≡◌, Bool, true, false, List, [], ◌∷◌, Option}
use Rattle.backing.specs.declared.call.Answer.{Answer}
use Rattle.backing.specs.Tree.{Tree}
use Rattle.backing.specs.Calls.{Asked}
use Rattle.backing.specs.Device.{Device, Performs}
use Rattle.laws.specs.Exchanging.{AreFree}
use Rattle.laws.specs.Owning.{Each}

-- a call of the tree, how its device treated it, and what it answered
pub record Step : Type 0 where
  pub device : Device
  pub call : Asked
  pub answer : Answer

-- one step after another, on trees whose files have that limit
abbrev pub Runs : Option ℕ → Tree → List Step → Tree → Type 0
Runs limit old [] new = new ≡ old
Runs limit old (step ∷ steps) new = (mid : Tree) × Performs limit old step.device step.call step.answer mid × Runs limit mid steps new

-- a step, and whether it is the request's
pub record Marked : Type 0 where
  pub ours : Bool
  pub step : Step

abbrev pub if_ours : Bool → Step → List Step → List Step
if_ours true step steps = step ∷ steps
if_ours false step steps = steps

abbrev pub if_theirs : Bool → Step → List Step → List Step
if_theirs true step steps = steps
if_theirs false step steps = step ∷ steps

abbrev pub all_of : List Marked → List Step
all_of [] = []
all_of (m ∷ ms) = m.step ∷ all_of ms

abbrev pub ours_of : List Marked → List Step
ours_of [] = []
ours_of (m ∷ ms) = if_ours m.ours m.step (ours_of ms)

abbrev pub theirs_of : List Marked → List Step
theirs_of [] = []
theirs_of (m ∷ ms) = if_theirs m.ours m.step (theirs_of ms)

-- each step of the request and each later one of another are free of one another
abbrev pub FreeFrom : Bool → Step → List Step → Type 0
FreeFrom true step theirs = Each (λ other. AreFree step.call other.call) theirs
FreeFrom false step theirs = Unit {0}

abbrev pub AllFree : List Marked → Type 0
AllFree [] = Unit {0}
AllFree (m ∷ ms) = FreeFrom m.ours m.step (theirs_of ms) × AllFree ms
