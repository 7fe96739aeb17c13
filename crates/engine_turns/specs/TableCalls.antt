-- A table behind a lock, as a thread knows it: by the calls that it makes.
use Rattle.std.specs.Prelude.{ℕ, ◌≡◌, ◌+◌, Bool, true, false, List, [], ◌++◌, Option, Some, None}
use Rattle.std.proofs.Common.{w32}
use mir.Val.{SFits}
use Rattle.ledger.specs.Shares.{Part}
use Rattle.table_steps.specs.Answers.{Answer, Settlement, entries_in}
use Rattle.table_steps.specs.declared.data.Begin.{Begin}
use Rattle.table_steps.specs.declared.data.Begin.TheVariants as begin
use Rattle.engine.specs.Tables.{Table}
use Rattle.shared_history.specs.declared.views.View.{View}
use Rattle.table_shared.specs.declared.entries.LogEntry.{LogEntry}
use Rattle.table_shared.specs.Histories.{calls_of, unless_busy}
use Rattle.table_shared.specs.Runs.{Call, began, finished, forgot, looked, settled}
use Rattle.engine_queues.specs.declared.left.Left.{Left}
use Rattle.engine_turns.specs.declared.table_handle.TurnResult.{TurnResult}
use Rattle.engine_turns.specs.declared.table_handle.TurnResult.TheVariants as turn_result

-- ---- everything that a thread did

-- its index, and the calls that it made, in order
pub record OnTable : Type 0 where
  pub by : ℕ
  pub calls : List Call

abbrev pub on_table_of : {L : Type 0} → View (LogEntry L) → OnTable
on_table_of thread_log = record { by = thread_log.by; calls = calls_of thread_log.mine }

-- nothing so far
abbrev pub idle : ℕ → OnTable
idle index = record { by = index; calls = [] }

-- with these further calls
abbrev pub then_all : OnTable → List Call → OnTable
then_all old calls = record { by = old.by; calls = old.calls ++ calls }

abbrev pub then_made : OnTable → Call → OnTable
then_made old call = then_all old (unless_busy call)

-- ---- the result of a turn

pub data TurnEnd : Type 0 where
  Fresh : TurnEnd
  Given : (answer : Answer) → TurnEnd
  Leaves : (left : Left) → TurnEnd
  Settled : (settlement : Settlement) → TurnEnd

abbrev pub turn_end_of : TurnResult → TurnEnd
turn_end_of turn_result.Nothing = Fresh
turn_end_of (turn_result.Answer answered) = Given answered.value
turn_end_of (turn_result.Left left) = Leaves left
turn_end_of (turn_result.Settled settlement) = Settled settlement

abbrev pub listed : TurnEnd → ℕ
listed Fresh = 0
listed (Given answer) = entries_in answer.given
listed (Leaves left) = entries_in left.answered.given
listed (Settled settlement) = settlement.entries

-- what is left to the writer
abbrev pub left_in : TurnEnd → Option Left
left_in Fresh = None
left_in (Given answer) = None
left_in (Leaves left) = Some left
left_in (Settled settlement) = None

-- the settle that was made
abbrev pub settled_in : TurnEnd → Option Settlement
settled_in Fresh = None
settled_in (Given answer) = None
settled_in (Leaves left) = None
settled_in (Settled settlement) = Some settlement

-- ---- the table

pub record Known : Type 0 where
  pub turn_end : TurnEnd
  pub on_table : OnTable

abbrev pub known : {L : Type 0} → TurnResult → View (LogEntry L) → Known
known turn_result thread_log = record { turn_end = turn_end_of turn_result; on_table = on_table_of thread_log }

-- the result of a settle
abbrev pub settlement_of : Answer → (taken : Bool) → Settlement
settlement_of answer taken = record { id = answer.id; entries = entries_in answer.given; taken = taken }

-- an answer whose reply is queued is left to the writer
abbrev pub settling : Known → Answer → (put : Option ℕ) → (taken : Bool) → Known
settling old answer put true = record { turn_end = Leaves (record { answered = answer; put = put }); on_table = old.on_table }
settling old answer put false = record { turn_end = Settled (settlement_of answer false); on_table = then_made old.on_table (settled answer false (settlement_of answer false)) }

-- a share gains the listed entries; it remains that of the same thread
pub record GainsListed (old : Known) (before : Part) (new : Known) (after : Part) : Type 0 where
  pub entries : after.totals.entries + listed old.turn_end ≡ before.totals.entries + listed new.turn_end
  pub index : after.index ≡ before.index
  pub by_is : new.on_table.by ≡ old.on_table.by

-- an error that is returned has 32 bits
abbrev pub HasBits : Begin → Type 0
HasBits (begin.Go claim) = Unit {0}
HasBits begin.Busy = Unit {0}
HasBits (begin.Refused errno) = SFits w32 errno

-- Each call is the next one that the thread made. Whether it was a correct step follows from the history, which has the
-- calls of all threads.
abbrev pub known_table : Table Known
known_table = record {
  begins = λ old unique want told new. HasBits told × (new ≡ record { turn_end = old.turn_end; on_table = then_made old.on_table (began unique want told) });
  finishes = λ old id outcome answer new. new ≡ record { turn_end = Given answer; on_table = then_made old.on_table (finished id outcome answer) };
  settles = λ old answer put taken new. new ≡ settling old answer put taken;
  forgets = λ old number n new. (amount : ℕ) × (new ≡ record { turn_end = old.turn_end; on_table = then_made old.on_table (forgot number n amount) });
  finds = λ old fh file new. new ≡ record { turn_end = old.turn_end; on_table = then_made old.on_table (looked fh file) };
  knows = λ answer. Unit {0};
  is_free = λ old. old.turn_end ≡ Fresh;
  holds = λ old answer. old.turn_end ≡ Given answer;
  gains = GainsListed;
  leftovers = λ old paths. ⊥;
  is_idle = λ old. Unit {0};
}
