-- What is set, and what is brought to the disk.
use Rattle.paths.specs.Prefixes.{Names}
use Rattle.backing.specs.Calls.{Asked, AskSync, AskSetPermissions, AskSetOwner, AskSetTimes, PassesAll}
use Rattle.backing.specs.Checks.{present_tests}
use Rattle.backing.specs.Tree.{Tree}
use Rattle.disk.specs.declared.stat.Change.{Change}
use Rattle.disk.specs.declared.stat.Change.TheVariants.{Permissions, Owner, Times}

-- something stands there
abbrev pub IsPresent : Tree → Names → Type 0
IsPresent at p = PassesAll at (present_tests p)

-- of which calls it is told that they are done once the disk has done it
abbrev pub Lasts : (Names → Change → Type 0) → (Names → Type 0) → Asked → Type 0
Lasts has_set has_synced (AskSync p) = has_synced p
Lasts has_set has_synced (AskSetPermissions p permissions) = has_set p (Permissions permissions)
Lasts has_set has_synced (AskSetOwner p uid gid) = has_set p (Owner uid gid)
Lasts has_set has_synced (AskSetTimes p accessed modified) = has_set p (Times accessed modified)
Lasts has_set has_synced call = Unit {0}
