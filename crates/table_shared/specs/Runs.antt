-- Runs of a table, call by call, with the world after each.
use Rattle.std.specs.Prelude.{ℕ, ◌≡◌, Bool, List, Option, [], ◌∷◌, ◌++◌}
use Rattle.table_files.specs.declared.data.OpenFile.{OpenFile}
use Rattle.table_requests.specs.declared.data.Want.{Want}
use Rattle.table_steps.specs.Answers.{Answer, Settlement}
use Rattle.table_steps.specs.declared.data.Begin.{Begin}
use Rattle.table_steps.specs.declared.data.Outcome.{Outcome}
use Rattle.table_steps.specs.Kept.{world_of}
use Rattle.table.specs.Renewing.{BeginsAnew, FinishesAnew, ForgetsAnew, SettlesAnew}
use Rattle.table_steps.specs.World.{IsLawfulWorld, World}
use Rattle.shared_history.specs.declared.views.View.{View}
use Rattle.table_shared.specs.declared.entries.LogEntry.{LogEntry}
use Rattle.table_shared.specs.declared.entries.Event.{Event}
use Rattle.table_shared.specs.declared.entries.Event.TheVariants as event

-- ---- one call

-- a call with its arguments and its result
pub data Call : Type 0 where
  began : (unique : ℕ) (want : Want) (told : Begin) → Call
  finished : (id : ℕ) (outcome : Outcome) (told : Answer) → Call
  settled : (answer : Answer) (taken : Bool) (told : Settlement) → Call
  forgot : (number n told : ℕ) → Call
  -- the file open under a handle, if there is one
  looked : (fh : ℕ) (told : Option OpenFile) → Call

abbrev pub call_of : Event → Call
call_of (event.Begin unique want told) = began unique want.value told.value
call_of (event.Finish id outcome told) = finished id outcome.value told.value
call_of (event.Settle answered taken told) = settled answered.value taken told.value
call_of (event.Forget number n told) = forgot number n told
call_of (event.Look fh told) = looked fh told.value

-- the call led from one world to the other
abbrev pub IsStep : World → Call → World → Type 0
IsStep old (began unique want told) new = BeginsAnew old unique want told new
IsStep old (finished id outcome told) new = FinishesAnew old id outcome told new
IsStep old (settled answer taken told) new = SettlesAnew old answer taken told new
IsStep old (forgot number n told) new = ForgetsAnew old number n told new
IsStep old (looked fh told) new = (told ≡ old.files fh) × (new ≡ old)

-- ---- all calls of a log

-- a log: entries, each with the index of the thread that made it. L is for the ledgers of the table
abbrev pub Log : Type 0 → Type 0
Log L = List (ℕ × LogEntry L)

module _ {L : Type 0} where
  abbrev pub after : ℕ × LogEntry L → World
  after x = world_of x.1.after.value

  abbrev pub call_in : ℕ × LogEntry L → Call
  call_in x = call_of x.1.event

  -- each call starts from the world in which the one before it ended, and all worlds in between are lawful
  abbrev pub IsRun : World → Log L → Type 0
  IsRun w [] = IsLawfulWorld w
  IsRun w (x ∷ xs) = IsLawfulWorld w × IsStep w (call_in x) (after x) × IsRun (after x) xs

  -- the world in which it ends
  abbrev pub end_of : World → Log L → World
  end_of w [] = w
  end_of w (x ∷ xs) = end_of (after x) xs

  -- ---- what one thread knows

  -- the thread made this call: its log has the entries before, and then this call, with its index. It is a run
  pub record Makes (start : World) (call : Call) (old new : View (LogEntry L)) : Type 0 where
    pub between : Log L
    pub entry : LogEntry L
    pub call_is : call_of entry.event ≡ call
    pub seen : new.seen ≡ (old.seen ++ between) ++ (old.by, entry) ∷ []
    pub run : IsRun start new.seen
    pub mine : new.mine ≡ old.mine ++ entry ∷ []
    pub index : new.by ≡ old.by
