-- What threads did on one table, call by call.
use Rattle.std.specs.Prelude.{ℕ, ◌==◌, Bool, true, false, List, [], ◌∷◌, ◌++◌, map}
use Rattle.table_steps.specs.declared.data.Begin.TheVariants as begin
use Rattle.table_steps.specs.World.{IsLawfulWorld, World}
use Rattle.table_shared.specs.declared.entries.LogEntry.{LogEntry}
use Rattle.table_shared.specs.Runs.{Call, IsStep, Log, after, began, call_in, call_of, finished, forgot, looked, settled}

-- a call that a thread made, and the world after it
pub record Made : Type 0 where
  pub by : ℕ
  pub call : Call
  pub after : World

-- each call starts from the world in which the one before it ended, and all worlds in between are lawful
abbrev pub IsHistory : World → List Made → Type 0
IsHistory start [] = IsLawfulWorld start
IsHistory start (made ∷ history) = IsLawfulWorld start × IsStep start made.call made.after × IsHistory made.after history

-- the world in which it ends
abbrev pub last_world : World → List Made → World
last_world start [] = start
last_world start (made ∷ history) = last_world made.after history

-- ---- the calls of one thread

-- A begin that had to wait is made again, and is left out. It may have ended a period of the ledger, and changed
-- nothing else.
abbrev pub unless_busy : Call → List Call
unless_busy (began unique want (begin.Go claim)) = began unique want (begin.Go claim) ∷ []
unless_busy (began unique want begin.Busy) = []
unless_busy (began unique want (begin.Refused errno)) = began unique want (begin.Refused errno) ∷ []
unless_busy (finished id outcome told) = finished id outcome told ∷ []
unless_busy (settled answer taken told) = settled answer taken told ∷ []
unless_busy (forgot number n told) = forgot number n told ∷ []
unless_busy (looked fh told) = looked fh told ∷ []

abbrev pub calls_if : Bool → Call → List Call
calls_if true call = unless_busy call
calls_if false call = []

-- in the order in which they were made
abbrev pub calls_by : ℕ → List Made → List Call
calls_by index [] = []
calls_by index (made ∷ history) = calls_if (made.by == index) made.call ++ calls_by index history

-- ---- the same for a log

module _ {L : Type 0} where
  -- the calls of the entries that one thread made
  abbrev pub calls_of : List (LogEntry L) → List Call
  calls_of [] = []
  calls_of (entry ∷ entries) = unless_busy (call_of entry.event) ++ calls_of entries

  abbrev pub history_of : Log L → List Made
  history_of log = map (λ x. record { by = x.0; call = call_in x; after = after x }) log
