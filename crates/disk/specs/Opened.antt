-- Which open files serve which calls.
use Rattle.std.specs.Prelude.{Bool, true, false}
use Rattle.disk.specs.declared.stat.Access.{Access}
use Rattle.disk.specs.declared.stat.Access.TheVariants.{Read, Write}

-- what was opened to be read and written serves a reader too
abbrev pub serves : Access → Access → Bool
serves Write wanted = true
serves Read Read = true
serves Read Write = false
