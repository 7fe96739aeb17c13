-- The names in a folder, as they are read a part at a time.
use Rattle.std.specs.Prelude.{◌≡◌, ◌==◌, ◌⊎◌, ℕ, Bool, false, List, [], ◌∷◌, ◌++◌, flat_map, if◌then◌else◌}
use Rattle.terms.specs.Names.{IsSpelled}
use Rattle.terms.specs.declared.settings.Names.{Names}
use Rattle.disk.specs.Names.{IsLawfulName}

-- a name that the part ends in
abbrev pub last_name : List ℕ → List (List ℕ)
last_name [] = []
last_name (byte ∷ name) = (byte ∷ name) ∷ []

-- the names in a part, of whose first one that begin was read: a NUL stands behind each, but maybe the last
abbrev pub names_from : (begin : List ℕ) → List ℕ → List (List ℕ)
names_from begin [] = last_name begin
names_from begin (byte ∷ bytes) = if byte == 0 then begin ∷ names_from [] bytes else names_from (begin ++ byte ∷ []) bytes

-- it is spelled as the names that are shown, and a name that a folder can hold: neither `.` nor `..`
pub record IsShown (shown : Names) (name : List ℕ) : Type 0 where
  pub spelled : IsSpelled shown name
  pub lawful : IsLawfulName name

-- what is told of one name: it alone, or nothing
abbrev pub Tells : Names → List ℕ → List (List ℕ) → Type 0
Tells shown name told = (IsShown shown name × (told ≡ name ∷ [])) ⊎ ((IsShown shown name → ⊥) × (told ≡ []))

-- what is told of names, in their order
abbrev pub TellsAll : Names → List (List ℕ) → List (List ℕ) → Type 0
TellsAll shown [] told = told ≡ []
TellsAll shown (name ∷ names) told = (first rest : List (List ℕ)) × Tells shown name first × TellsAll shown names rest × (told ≡ first ++ rest)

-- so the list is longer by what is told of a name
pub record AddsName (shown : Names) (name : List ℕ) (old new : List (List ℕ)) : Type 0 where
  pub told : List (List ℕ)
  pub tells : Tells shown name told
  pub longer : new ≡ old ++ told

-- so it is by what is told of the names in a part
pub record AddsPart (shown : Names) (part : List ℕ) (old new : List (List ℕ)) : Type 0 where
  pub told : List (List ℕ)
  pub tells : TellsAll shown (names_from [] part) told
  pub longer : new ≡ old ++ told

-- these parts were read, one after another
abbrev pub ReadsParts : {K : Type 0} → (advances : K → List ℕ → K → Type 0) → K → List (List ℕ) → K → Type 0
ReadsParts advances old [] new = new ≡ old
ReadsParts {K} advances old (part ∷ parts) new = (mid : K) × advances old part mid × ReadsParts advances mid parts new

-- the next part was read, and what is told of its names added
pub record ReadsNext {K : Type 0} (shown : Names) (advances : K → List ℕ → K → Type 0) (old new : K) (names names' : List (List ℕ)) (more : Bool) : Type 0 where
  pub part : List ℕ
  pub read : advances old part new
  pub adds : AddsPart shown part names names'
  pub ended : more ≡ false → part ≡ []

-- all parts so far
pub record ReadsOn {K : Type 0} (shown : Names) (advances : K → List ℕ → K → Type 0) (old new : K) (told : List (List ℕ)) : Type 0 where
  pub parts : List (List ℕ)
  pub read : ReadsParts advances old parts new
  pub tells : TellsAll shown (flat_map (names_from []) parts) told

-- All names in the folder: parts of them from the first on, and then none.
pub record ListsAll {K : Type 0} (shown : Names) (begins : ℕ → K → Type 0) (advances : K → List ℕ → K → Type 0) (dir : ℕ) (names : List (List ℕ)) : Type 0 where
  pub first : K
  pub last : K
  pub end : K
  pub begun : begins dir first
  pub reads : ReadsOn shown advances first last names
  pub ended : advances last [] end
