-- Calls that fail after their work.
use Rattle.std.specs.Prelude.{ℤ, ◌≡◌, ◌⊎◌, Result, Err}
use Rattle.disk.specs.declared.error.DiskError.{DiskError}
use Rattle.disk.specs.declared.error.DiskError.TheVariants.{Failed}

-- The answer, or a failure in its place.
abbrev pub Ended : {T : Type 0} → Result T DiskError → Result T DiskError → Type 0
Ended answer result = (result ≡ answer) ⊎ ((errno : ℤ) × (result ≡ Err (Failed errno)))
