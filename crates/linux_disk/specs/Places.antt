-- What is handed to the system for one name below an open folder, where the process's working directory is the folder of its descriptors.
use Rattle.std.specs.Prelude.{◌≡◌, ◌⊎◌, ℕ, List, ◌++◌, codes, bit_and}
use Rattle.std.specs.Fmt.{decimal}
use Rattle.disk.specs.Names.{IsLawfulName}
use Rattle.disk.specs.declared.stat.Stat.{Stat}
use Rattle.linux_disk.specs.Calls.{Done, Inspected}
use Rattle.linux_disk.specs.Ways.{IsRest}

-- what leads to the folder that is open under that number, and a slash
abbrev pub way_to : ℕ → List ℕ
way_to number = decimal number ++ codes "/"

-- one name below that folder
pub record IsPlace (number : ℕ) (text : List ℕ) : Type 0 where
  pub name : List ℕ
  pub lawful : IsLawfulName name
  pub spelled : text ≡ way_to number ++ name

-- The same behind a guard: so many links that the system follows no further one. So none that stands at the name is followed.
pub record IsGuarded (guards : List ℕ → Type 0) (number : ℕ) (text : List ℕ) : Type 0 where
  pub guard : List ℕ
  pub shown : ∥ guards guard ∥₁
  pub place : List ℕ
  pub is_place : IsPlace number place
  pub spelled : text ≡ guard ++ place

-- the same in a folder that is reached by names, or that folder itself
pub record IsBelow (guards : List ℕ → Type 0) (number : ℕ) (text : List ℕ) : Type 0 where
  pub guard : List ℕ
  pub shown : ∥ guards guard ∥₁
  pub rest : List ℕ
  pub leads : IsRest rest
  pub spelled : text ≡ guard ++ (way_to number ++ rest)

-- A text that leads to one name, for calls that follow no link which stands at the last name: what is before it has to be safe.
abbrev pub IsReached : (guards : List ℕ → Type 0) → (number : ℕ) → (text : List ℕ) → Type 0
IsReached guards number text = IsPlace number text ⊎ IsBelow guards number text

-- Nobody but that user, who owns it, may change the names in the folder: neither its group nor others may write (18 is 0o022).
pub record IsPrivate (user : ℕ) (stat : Stat) : Type 0 where
  pub owned : stat.details.uid ≡ user
  pub closed : bit_and stat.details.permissions 18 ≡ 0

-- that was seen of what is open under that stamp
pub record WasPrivate (did : Done → Type 0) (user stamp : ℕ) : Type 0 where
  pub stat : Stat
  pub seen : ∥ did (Inspected stamp stat) ∥₁
  pub is_private : IsPrivate user stat

-- A text that leads to that one name and to nothing else: behind a guard, or in a folder in which nobody else can put a link.
abbrev pub IsSafe : (guards : List ℕ → Type 0) → (did : Done → Type 0) → (user number stamp : ℕ) → (text : List ℕ) → Type 0
IsSafe guards did user number stamp text = IsGuarded guards number text ⊎ (IsBelow guards number text ⊎ (IsPlace number text × ∥ WasPrivate did user stamp ∥₁))
