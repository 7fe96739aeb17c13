-- Calls of a system, as they were made and did their work.
use Rattle.std.specs.Prelude.{ℕ, List}
use Rattle.disk.specs.declared.stat.Access.{Access}
use Rattle.disk.specs.declared.stat.Change.{Change}
use Rattle.disk.specs.declared.stat.Stat.{Stat}

-- One call, and what it told. What is open goes by its stamp, a number that never comes back.
pub data Done : Type 0 where
  Looked : (dir : ℕ) → (name : List ℕ) → (stat : Stat) → Done  -- what stands at the name was shown
  LookedAt : (text : List ℕ) → (stat : Stat) → Done
  Inspected : (stamp : ℕ) → (stat : Stat) → Done  -- what is open was shown
  OpenedAgain : (dir : ℕ) → (stamp : ℕ) → Done  -- the same folder was opened once more
  OpenedDir : (dir : ℕ) → (name : List ℕ) → (stamp : ℕ) → Done
  OpenedDirAt : (text : List ℕ) → (stamp : ℕ) → Done
  OpenedFile : (text : List ℕ) → (access : Access) → (stamp : ℕ) → Done
  Read : (file : ℕ) → (offset : ℕ) → (bytes : List ℕ) → Done  -- these bytes were put at the buffer's start
  Wrote : (file : ℕ) → (offset : ℕ) → (bytes : List ℕ) → (n : ℕ) → Done  -- so many of them were taken
  SetLen : (file : ℕ) → (size : ℕ) → Done
  Synced : (stamp : ℕ) → Done
  Set : (stamp : ℕ) → (change : Change) → Done
  SetAt : (text : List ℕ) → (change : Change) → Done
  MadeFile : (text : List ℕ) → (permissions : ℕ) → (stamp : ℕ) → Done
  MadeDir : (text : List ℕ) → (permissions : ℕ) → Done
  ReadLink : (text : List ℕ) → (room : ℕ) → (target : List ℕ) → Done  -- these bytes, the first ones of the link's own text, were put at the start of a buffer of that length
  MadeLink : (text : List ℕ) → (target : List ℕ) → Done
  RemovedFile : (dir : ℕ) → (name : List ℕ) → Done
  RemovedFileAt : (text : List ℕ) → Done
  RemovedDir : (dir : ℕ) → (name : List ℕ) → Done
  RemovedDirAt : (text : List ℕ) → Done
  Renamed : (old : List ℕ) → (new : List ℕ) → Done
  Linked : (old : List ℕ) → (new : List ℕ) → Done
