-- Turns with a directory whose tree is known.
use Rattle.std.specs.Prelude.{ℕ, Option}
use Rattle.backing.specs.Tree.{Tree}
use Rattle.table_steps.specs.Answers.{Settlement}
use Rattle.terms.specs.declared.settings.Settings.{Settings}
use Rattle.engine.specs.Serving.{Behaviour}
use Rattle.engine_turns.specs.Turns.{Standing, Worked}
use Rattle.engine.specs.Known.{KnownRun}

-- one job was taken, handled and answered, and its calls of the directory are calls on the tree
pub record WorkedKnown {C D : Type 0} (does : Behaviour C D) (limit : Option ℕ) (tree_of : C → Tree) (faults : C → ℕ) (settings : Settings) (from : ℕ) (old : Standing C D) (settled : Option Settlement) (new : Standing C D) : Type 0 where
  pub worked : Worked does settings from old settled new
  pub run : KnownRun limit tree_of faults old.means.served.calls worked.answers.meets.turn.made new.means.served.calls
