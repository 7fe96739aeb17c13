-- Why nothing was made or removed.
use Rattle.std.specs.Prelude.{◌≡◌, Result, Ok, Err}
use Rattle.backing.specs.declared.call.Answer.{Answer}
use Rattle.backing.specs.declared.call.Answer.TheVariants.{Done}
use Rattle.disk.specs.declared.error.DiskError.{DiskError}
use Rattle.disk.specs.declared.error.DiskError.TheVariants.{Absent, Exists, NotFolder, IsFolder, NotEmpty}
use Rattle.disk_folder.specs.declared.trouble.Trouble.{Trouble}
use Rattle.disk_folder.specs.declared.trouble.Trouble.TheVariants.{Refused, Failed}
use Rattle.disk_folder.specs.declared.trouble.Reason.TheVariants.{Nothing, Taken, NoFolder, Folder as IsOne, Names as HasNames}
use Rattle.disk_folder.specs.Troubles.{IsFailure}

-- something stands there, or a call of the system failed
abbrev pub IsTaken : Trouble → Type 0
IsTaken (Refused Taken) = Unit {0}
IsTaken (Refused reason) = ⊥
IsTaken (Failed errno) = Unit {0}

-- why nothing was made, by the system's error
abbrev pub IsWhyNotMade : DiskError → Trouble → Type 0
IsWhyNotMade Exists trouble = IsTaken trouble
IsWhyNotMade error trouble = IsFailure trouble

-- why what stands somewhere got no further name, by the system's error
abbrev pub IsWhyNotLinked : DiskError → Trouble → Type 0
IsWhyNotLinked Absent trouble = trouble ≡ Refused Nothing
IsWhyNotLinked Exists trouble = IsTaken trouble
IsWhyNotLinked error trouble = IsFailure trouble

-- why nothing was removed that is no folder, by the system's error
abbrev pub IsWhyNotRemoved : DiskError → Trouble → Type 0
IsWhyNotRemoved Absent trouble = trouble ≡ Refused Nothing
IsWhyNotRemoved IsFolder trouble = trouble ≡ Refused IsOne
IsWhyNotRemoved error trouble = IsFailure trouble

-- it has names, or a call of the system failed
abbrev pub IsFull : Trouble → Type 0
IsFull (Refused HasNames) = Unit {0}
IsFull (Refused reason) = ⊥
IsFull (Failed errno) = Unit {0}

-- it is no folder, or a call of the system failed
abbrev pub IsNoDir : Trouble → Type 0
IsNoDir (Refused NoFolder) = Unit {0}
IsNoDir (Refused reason) = ⊥
IsNoDir (Failed errno) = Unit {0}

-- why no folder was removed, by the system's error
abbrev pub IsWhyDirStays : DiskError → Trouble → Type 0
IsWhyDirStays Absent trouble = trouble ≡ Refused Nothing
IsWhyDirStays NotFolder trouble = IsNoDir trouble
IsWhyDirStays NotEmpty trouble = IsFull trouble
IsWhyDirStays error trouble = IsFailure trouble

-- how a call ends that is done when it has made something
abbrev pub done : {A : Type 0} → Result A Trouble → Result Answer Trouble
done (Ok made) = Ok Done
done (Err trouble) = Err trouble
