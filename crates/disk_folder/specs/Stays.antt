-- What is open, after a change that moves nothing.
use Rattle.std.specs.Prelude.{◌≡◌}
use Rattle.std.specs.Option.{option_map}
use Rattle.paths.specs.Prefixes.{Names}
use Rattle.backing.specs.Tree.{Tree, kind_of}
use Rattle.disk.specs.Answers.{AllStay}

-- what is open stands where it stood, and is of the same kind
pub record StaysOpen {H : Type 0} (at : Tree) (old : H → Names → Type 0) (at' : Tree) (new : H → Names → Type 0) : Type 0 where
  pub stay : AllStay old new
  pub kinds : (q : Names) → option_map kind_of (at' q) ≡ option_map kind_of (at q)
