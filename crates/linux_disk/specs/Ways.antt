-- The way to a folder that is reached by names: each with a slash behind it.
use Rattle.std.specs.Prelude.{◌≡◌, ◌⊎◌, ℕ, List, [], ◌∷◌, ◌++◌, codes, Option, None, Some}
use Rattle.disk.specs.Names.{IsLawfulName}

-- through these folders, of which the nearest one stands first
abbrev pub Through : List (List ℕ) → List ℕ → Type 0
Through [] way = way ≡ []
Through (name ∷ names) way = (up : List ℕ) × Through names up × IsLawfulName name × (way ≡ up ++ (name ++ codes "/"))

pub record IsWay (way : List ℕ) : Type 0 where
  pub names : List (List ℕ)
  pub through : Through names way

-- a name in that folder
pub record IsNameBelow (rest : List ℕ) : Type 0 where
  pub way : List ℕ
  pub leads : IsWay way
  pub name : List ℕ
  pub lawful : IsLawfulName name
  pub spelled : rest ≡ way ++ name

-- the folder, or a name in it
abbrev pub IsRest : List ℕ → Type 0
IsRest rest = IsWay rest ⊎ IsNameBelow rest

-- none, where the folder is open itself
abbrev pub way_in : Option (List ℕ) → List ℕ
way_in None = []
way_in (Some way) = way
