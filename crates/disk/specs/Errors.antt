-- The error numbers of a system's failures.
use Rattle.std.specs.Prelude.{ℤ}
use Rattle.errno.specs.declared.TheConstants.{ENOENT, EEXIST, ENOTDIR, EISDIR, ENOTEMPTY}
use Rattle.disk.specs.declared.error.DiskError.{DiskError}
use Rattle.disk.specs.declared.error.DiskError.TheVariants.{Absent, Exists, NotFolder, IsFolder, NotEmpty, Failed}

abbrev pub errno_of : DiskError → ℤ
errno_of Absent = ENOENT
errno_of Exists = EEXIST
errno_of NotFolder = ENOTDIR
errno_of IsFolder = EISDIR
errno_of NotEmpty = ENOTEMPTY
errno_of (Failed errno) = errno
