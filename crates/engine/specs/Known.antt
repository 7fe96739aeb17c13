-- A run of calls on a directory whose tree is known.
use Rattle.std.specs.Prelude.{ℕ, ◌≡◌, ◌+◌, List, [], ◌∷◌, Option}
use Rattle.backing.specs.Device.{Device, Performs, counted, faulty}
use Rattle.backing.specs.Tree.{Tree}
use Rattle.ops.specs.Scripts.{Made}

-- how many of them fail
abbrev pub faults_in : List Device → ℕ
faults_in [] = 0
faults_in (device ∷ devices) = faulty device + faults_in devices

-- Each call is one of the tree, whose files have that limit, as the device treats it, and leads to the tree of the next.
abbrev pub OnTree : Option ℕ → Tree → List Device → List Made → Tree → Type 0
OnTree limit old [] [] new = new ≡ old
OnTree limit old [] (made ∷ more) new = ⊥
OnTree limit old (device ∷ devices) [] new = ⊥
OnTree limit old (device ∷ devices) (made ∷ more) new = (mid : Tree) × Performs limit old device made.call made.answer mid × OnTree limit mid devices more new

-- All these calls are calls on the tree, with the failures of its device as inputs; each failure is counted, and
-- nothing else is.
pub record KnownRun {C : Type 0} (limit : Option ℕ) (tree_of : C → Tree) (faults : C → ℕ) (old : C) (made : List Made) (new : C) : Type 0 where
  pub devices : List Device
  pub on_tree : OnTree limit (tree_of old) devices made (tree_of new)
  pub counts : faults new ≡ counted (faults old) (faults_in devices)
