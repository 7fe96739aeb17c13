-- Files that are kept open.
use Rattle.std.proofs.Common.{◌≡◌, List, Bool, true, Option, Some, None, IfSome}
use Rattle.std.specs.Arc.{arc_value}
use Rattle.std.specs.Map.{lookup}
use Rattle.disk.specs.declared.stat.Access.{Access}
use Rattle.disk.specs.Opened.{serves}
use Rattle.linux_disk.specs.Files.{IsServed}
use Rattle.linux_disk.specs.declared.keys.FileKey.{FileKey}
use Rattle.linux_disk.specs.declared.files.KeptFile.{KeptFile}

-- a copy of the file that is kept there and serves
pub is_served : {F : Type 0} (files : List (FileKey × KeptFile F)) (is : FileKey → Bool) (access : Access) (kept : KeptFile F) (copied : Option (KeptFile F)) → IfSome copied (λ copy. (arc_value copy.file ≡ arc_value kept.file) × (copy.seen ≡ kept.seen)) → lookup is files ≡ Some kept → serves kept.access access ≡ true → IfSome copied (IsServed files is access)
is_served files is access kept (Some copy) same there serving = record { kept = kept; there = there; same = same.0; seen = same.1; serves = serving }
is_served files is access kept None same there serving = tt
