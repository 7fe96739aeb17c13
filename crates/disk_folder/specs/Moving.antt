-- What is kept, as names are moved.
use Rattle.std.specs.Prelude.{◌≡◌, ◌⊎◌, ◌++◌, Bool, true, false, Option, Some, None, IsSome, Result, Ok, Err}
use Rattle.paths.specs.Prefixes.{Names, is_prefix}
use Rattle.backing.specs.declared.call.Answer.{Answer}
use Rattle.backing.specs.declared.call.Answer.TheVariants.{Done}
use Rattle.backing.specs.Tree.{Tree}
use Rattle.disk.specs.Answers.{Moves, Stays}
use Rattle.disk.specs.declared.error.DiskError.{DiskError}
use Rattle.disk.specs.declared.error.DiskError.TheVariants.{NotFolder, IsFolder, NotEmpty, Failed as Lost}
use Rattle.path_cache.specs.Cache.{kept_at}
use Rattle.disk_folder.specs.declared.opened.Open.{Open}
use Rattle.disk_folder.specs.declared.open_cache.OpenCache.{OpenCache}
use Rattle.disk_folder.specs.declared.trouble.Trouble.{Trouble}
use Rattle.disk_folder.specs.declared.trouble.Trouble.TheVariants.{Refused, Failed}
use Rattle.disk_folder.specs.declared.trouble.Reason.TheVariants.{NoFolder, Folder as IsOne}
use Rattle.disk_folder.specs.Changes.{IsFull}
use Rattle.disk_folder.specs.Troubles.{IsFailure}

-- whatever is kept was kept, at s or below it and now at t or below it, or elsewhere and there still
pub record Follows {H : Type 0} (old : OpenCache H) (s t : Names) (new : OpenCache H) : Type 0 where
  pub each : (p : Names) (opened : Open H) → kept_at new.cache p ≡ Some opened → ((more : Names) × (p ≡ t ++ more) × (kept_at old.cache (s ++ more) ≡ Some opened)) ⊎ ((is_prefix t p ≡ false) × (is_prefix s p ≡ false) × (kept_at old.cache p ≡ Some opened))

-- whether something stands at q
abbrev pub IsTold : Tree → Names → Bool → Type 0
IsTold at q true = IsSome (at q)
IsTold at q false = at q ≡ None

-- why nothing was renamed, by the system's error
abbrev pub IsWhyNotMoved : DiskError → Trouble → Type 0
IsWhyNotMoved IsFolder trouble = trouble ≡ Refused IsOne
IsWhyNotMoved NotFolder trouble = trouble ≡ Refused NoFolder
IsWhyNotMoved NotEmpty trouble = IsFull trouble
IsWhyNotMoved error trouble = IsFailure trouble

-- what a move told: it is done; or the system failed, which may have done nothing, or all; or nothing is told, and nothing is changed
abbrev pub MovesOrStays : {H : Type 0} → Tree → (H → Names → Type 0) → Names → Names → Option (Result Answer Trouble) → Tree → (H → Names → Type 0) → Type 0
MovesOrStays at old s t (Some (Ok answer)) at' new = (answer ≡ Done) × Moves at old s t at' new
MovesOrStays at old s t (Some (Err (Failed errno))) at' new = Stays at old at' new ⊎ Moves at old s t at' new
MovesOrStays at old s t (Some (Err (Refused reason))) at' new = ⊥
MovesOrStays at old s t None at' new = Stays at old at' new

-- the failure of a call that may have been done, by the system's error
abbrev pub IsLost : DiskError → Option Trouble → Type 0
IsLost (Lost errno) told = told ≡ Some (Failed errno)
IsLost error told = told ≡ None
