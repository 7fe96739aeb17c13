-- A call on a tree that others call too.
use Rattle.std.specs.Prelude.{ℕ, ◌≡◌}
use Rattle.backing.specs.declared.call.Answer.{Answer}
use Rattle.backing.specs.Calls.{Asked}
use Rattle.backing.specs.Device.{counted, faulty}
use Rattle.backing.specs.Memory.{Memory, Gives}

-- The tree's own call under its lock: its answer, its effect and its counts. Its failure is added to the handle's count
-- too.
pub record CallsFor (old : Memory) (before : ℕ) (call : Asked) (answer : Answer) (new : Memory) (after : ℕ) : Type 0 where
  pub gives : Gives old call answer new
  pub counts : after ≡ counted before (faulty gives.device)

-- Such a call on some tree, in whatever state that was when the call was made.
pub record Shows (before : ℕ) (call : Asked) (answer : Answer) (after : ℕ) : Type 0 where
  pub old : Memory
  pub new : Memory
  pub made : CallsFor old before call answer new after
