-- The error numbers of Linux.
use Rattle.std.specs.Prelude.{ℤ, pos, ◌≡◌, ◌≢◌}
use Rattle.disk.specs.declared.error.DiskError.{DiskError}
use Rattle.disk.specs.declared.error.DiskError.TheVariants.{Absent, Exists, NotFolder, IsFolder, NotEmpty, Failed}

-- which failure a number stands for
abbrev pub Means : (errno : ℤ) → DiskError → Type 0
Means errno Absent = errno ≡ pos 2
Means errno Exists = errno ≡ pos 17
Means errno NotFolder = errno ≡ pos 20
Means errno IsFolder = errno ≡ pos 21
Means errno NotEmpty = errno ≡ pos 39
Means errno (Failed number) = (number ≡ errno) × (errno ≢ pos 2) × (errno ≢ pos 17) × (errno ≢ pos 20) × (errno ≢ pos 21) × (errno ≢ pos 39)
