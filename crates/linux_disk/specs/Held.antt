-- What a handle has open.
use Rattle.std.specs.Arc.{arc_value}
use Rattle.linux_disk.specs.declared.held.Held.{Held}
use Rattle.linux_disk.specs.declared.held.Held.TheVariants.{Own, Shared}

abbrev pub held_value : {F : Type 0} → Held F → F
held_value (Own fd) = fd
held_value (Shared fd) = arc_value fd
