-- What calls came to in a folder that is open itself, or to which a way leads from the nearest one that is.
use Rattle.std.specs.Prelude.{◌≡◌, ◌<◌, ◌++◌, ℕ, List, Option, None, Some, codes, length}
use Rattle.payload.specs.declared.attributes.Kind.TheVariants.{Folder}
use Rattle.disk.specs.declared.stat.Stat.{Stat}
use Rattle.linux_disk.specs.Calls.{Done, Looked, LookedAt, Inspected, OpenedAgain, OpenedDir, OpenedDirAt, MadeFile, MadeDir, ReadLink, MadeLink, RemovedFile, RemovedFileAt, RemovedDir, RemovedDirAt, Renamed, Linked}
use Rattle.linux_disk.specs.Places.{way_to}
use Rattle.linux_disk.specs.Ways.{way_in}

-- that, behind a guard
pub record IsBehind (guards : List ℕ → Type 0) (rest text : List ℕ) : Type 0 where
  pub guard : List ℕ
  pub shown : ∥ guards guard ∥₁
  pub spelled : text ≡ guard ++ rest

-- The text leads to the name: from the folder that is open under the number, and behind a guard where further names lie between.
abbrev pub Reaches : (guards : List ℕ → Type 0) → (number : ℕ) → (below : Option (List ℕ)) → (name text : List ℕ) → Type 0
Reaches guards number None name text = text ≡ way_to number ++ name
Reaches guards number (Some way) name text = IsBehind guards (way_to number ++ (way ++ name)) text

-- what stands there was shown
pub record WasLookedAt (did : Done → Type 0) (guards : List ℕ → Type 0) (rest : List ℕ) (stat : Stat) : Type 0 where
  pub text : List ℕ
  pub behind : IsBehind guards rest text
  pub done : did (LookedAt text stat)

-- what stands at the name was
abbrev pub WasLooked : (did : Done → Type 0) → (guards : List ℕ → Type 0) → (dir number : ℕ) → (below : Option (List ℕ)) → (name : List ℕ) → (stat : Stat) → Type 0
WasLooked did guards dir number None name stat = did (Looked dir name stat)
WasLooked did guards dir number (Some way) name stat = WasLookedAt did guards (way_to number ++ (way ++ name)) stat

-- what is open was, or the folder to which the way leads
abbrev pub WasInspected : (did : Done → Type 0) → (guards : List ℕ → Type 0) → (stamp number : ℕ) → (below : Option (List ℕ)) → (stat : Stat) → Type 0
WasInspected did guards stamp number None stat = did (Inspected stamp stat)
WasInspected did guards stamp number (Some way) stat = WasLookedAt did guards (way_to number ++ way) stat

-- the folder there was opened
pub record WasOpenedDirAt (did : Done → Type 0) (guards : List ℕ → Type 0) (rest : List ℕ) (stamp : ℕ) : Type 0 where
  pub text : List ℕ
  pub behind : IsBehind guards rest text
  pub done : did (OpenedDirAt text stamp)

-- it holds of the folder there, which was opened for that
pub record HoldsAt (did : Done → Type 0) (guards : List ℕ → Type 0) (rest : List ℕ) (Holds : ℕ → Type 0) : Type 0 where
  pub stamp : ℕ
  pub opened : WasOpenedDirAt did guards rest stamp
  pub holds : Holds stamp

-- it holds of what is open, or of the folder to which the way leads
abbrev pub HoldsOfOpen : (did : Done → Type 0) → (guards : List ℕ → Type 0) → (stamp number : ℕ) → (below : Option (List ℕ)) → (Holds : ℕ → Type 0) → Type 0
HoldsOfOpen did guards stamp number None Holds = Holds stamp
HoldsOfOpen did guards stamp number (Some way) Holds = HoldsAt did guards (way_to number ++ way) Holds

-- the folder with the name was
abbrev pub WasOpenedDir : (did : Done → Type 0) → (guards : List ℕ → Type 0) → (dir number : ℕ) → (below : Option (List ℕ)) → (name : List ℕ) → (stamp : ℕ) → Type 0
WasOpenedDir did guards dir number None name stamp = did (OpenedDir dir name stamp)
WasOpenedDir did guards dir number (Some way) name stamp = WasOpenedDirAt did guards (way_to number ++ (way ++ name)) stamp

-- The folder may not be read: the way leads to it, by its name, from the folder that was opened once more.
pub record WasEntered (did : Done → Type 0) (guards : List ℕ → Type 0) (dir number : ℕ) (below : Option (List ℕ)) (name : List ℕ) (stamp : ℕ) (way : List ℕ) : Type 0 where
  pub stat : Stat
  pub seen : WasLooked did guards dir number below name stat
  pub folder : stat.kind ≡ Some Folder
  pub again : did (OpenedAgain dir stamp)
  pub spelled : way ≡ way_in below ++ (name ++ codes "/")

-- it was opened, or is entered
abbrev pub EntersDir : (did : Done → Type 0) → (guards : List ℕ → Type 0) → (dir number : ℕ) → (below : Option (List ℕ)) → (name : List ℕ) → (stamp : ℕ) → (into : Option (List ℕ)) → Type 0
EntersDir did guards dir number below name stamp None = WasOpenedDir did guards dir number below name stamp
EntersDir did guards dir number below name stamp (Some way) = WasEntered did guards dir number below name stamp way

pub record WasMadeFile (did : Done → Type 0) (guards : List ℕ → Type 0) (number : ℕ) (below : Option (List ℕ)) (name : List ℕ) (permissions stamp : ℕ) : Type 0 where
  pub text : List ℕ
  pub reaches : Reaches guards number below name text
  pub done : did (MadeFile text permissions stamp)

pub record WasMadeDir (did : Done → Type 0) (guards : List ℕ → Type 0) (number : ℕ) (below : Option (List ℕ)) (name : List ℕ) (permissions : ℕ) : Type 0 where
  pub text : List ℕ
  pub reaches : Reaches guards number below name text
  pub done : did (MadeDir text permissions)

-- The text of the link with the name was read, and all of it: the buffer had room for one byte more.
pub record WasReadLink (did : Done → Type 0) (guards : List ℕ → Type 0) (number : ℕ) (below : Option (List ℕ)) (name target : List ℕ) : Type 0 where
  pub text : List ℕ
  pub reaches : Reaches guards number below name text
  pub done : did (ReadLink text 4096 target)
  pub whole : length target < 4096

pub record WasMadeLink (did : Done → Type 0) (guards : List ℕ → Type 0) (number : ℕ) (below : Option (List ℕ)) (name target : List ℕ) : Type 0 where
  pub text : List ℕ
  pub reaches : Reaches guards number below name text
  pub done : did (MadeLink text target)

pub record WasRemovedFileAt (did : Done → Type 0) (guards : List ℕ → Type 0) (rest : List ℕ) : Type 0 where
  pub text : List ℕ
  pub behind : IsBehind guards rest text
  pub done : did (RemovedFileAt text)

abbrev pub WasRemovedFile : (did : Done → Type 0) → (guards : List ℕ → Type 0) → (dir number : ℕ) → (below : Option (List ℕ)) → (name : List ℕ) → Type 0
WasRemovedFile did guards dir number None name = did (RemovedFile dir name)
WasRemovedFile did guards dir number (Some way) name = WasRemovedFileAt did guards (way_to number ++ (way ++ name))

pub record WasRemovedDirAt (did : Done → Type 0) (guards : List ℕ → Type 0) (rest : List ℕ) : Type 0 where
  pub text : List ℕ
  pub behind : IsBehind guards rest text
  pub done : did (RemovedDirAt text)

abbrev pub WasRemovedDir : (did : Done → Type 0) → (guards : List ℕ → Type 0) → (dir number : ℕ) → (below : Option (List ℕ)) → (name : List ℕ) → Type 0
WasRemovedDir did guards dir number None name = did (RemovedDir dir name)
WasRemovedDir did guards dir number (Some way) name = WasRemovedDirAt did guards (way_to number ++ (way ++ name))

-- it was moved from the name that the one reaches to that of the other
pub record WasRenamed (did : Done → Type 0) (From To : List ℕ → Type 0) : Type 0 where
  pub old : List ℕ
  pub new : List ℕ
  pub old_reaches : From old
  pub new_reaches : To new
  pub done : did (Renamed old new)

-- what the one text reaches got the name that the other reaches as well
pub record WasLinked (did : Done → Type 0) (From To : List ℕ → Type 0) : Type 0 where
  pub old : List ℕ
  pub new : List ℕ
  pub old_reaches : From old
  pub new_reaches : To new
  pub done : did (Linked old new)
