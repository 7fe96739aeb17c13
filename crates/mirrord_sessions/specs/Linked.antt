-- What is known of a folder's calls until something has two names.
use Rattle.std.specs.Prelude.{ℕ, ◌≡◌, Bool, true, false, List, [], ◌∷◌, ◌++◌, Option}
use Rattle.backing.specs.Calls.{Asked}
use Rattle.backing.specs.declared.call.Answer.{Answer}
use Rattle.backing.specs.Tree.{Tree}
use Rattle.disk_folder.specs.Gives.{is_granted}
use Rattle.engine.specs.Known.{KnownRun}
use Rattle.engine.specs.Serving.{Makes}
use Rattle.ops.specs.Scripts.{Made}

abbrev pub unless_granted : Bool → Made → List Made → List Made
unless_granted true made more = []
unless_granted false made more = made ∷ more

-- the calls before the first LINK that was granted: all of them, if none was
abbrev pub before_link : List Made → List Made
before_link [] = []
before_link (made ∷ more) = unless_granted (is_granted made.call made.answer) made (before_link more)

-- The first calls of these are one run on the tree, whose files have that limit, and led to `last`, from where the rest go on.
pub record KnownUntil {C : Type 0} (gives : C → Asked → Answer → C → Type 0) (limit : Option ℕ) (tree_of : C → Tree) (faults : C → ℕ) (old : C) (first all : List Made) (new : C) : Type 0 where
  pub last : C
  pub run : KnownRun limit tree_of faults old first last
  pub rest : List Made
  pub whole : all ≡ first ++ rest
  pub goes_on : Makes gives last rest new
