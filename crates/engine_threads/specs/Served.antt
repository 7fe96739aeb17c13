-- What a session on threads has done, and one history of everything that its threads did on their table.
use Rattle.std.specs.Prelude.{◌≡◌, ◌≤◌, ◌+◌, ℕ, List, [], ◌∷◌, ◌++◌, length, All, Some}
use Rattle.std.specs.List.{range_with_len}
use Rattle.std.specs.Option.{option_map}
use Rattle.crossbeam_channel.specs.Claims.{view}
use Rattle.ledger.specs.Sums.{totals_over}
use Rattle.ledger.specs.declared.shares.Totals.{Totals}
use Rattle.terms.specs.declared.limits.Limits.{Limits}
use Rattle.terms.specs.declared.settings.Settings.{Settings}
use Rattle.backing.specs.Calls.{Asked}
use Rattle.backing.specs.declared.call.Answer.{Answer}
use Rattle.table_hiding.specs.Hiding.{KeepsHidden}
use Rattle.table_steps.specs.World.{World, opened_world}
use Rattle.table_shared.specs.Current.{StaysCurrent}
use Rattle.table_shared.specs.Histories.{IsHistory, Made, calls_by, last_world}
use Rattle.table_shared.specs.Runs.{Call}
use Rattle.engine.specs.Links.{Heard}
use Rattle.engine.specs.Serving.{RemovesLeft}
use Rattle.engine.specs.Tables.{worlds}
use Rattle.engine.specs.declared.links.Sent.{Sent}
use Rattle.engine_queues.specs.Gathered.{numbers_of}
use Rattle.engine_turns.specs.Reads.{HasReadAll}
use Rattle.engine_turns.specs.Shown.{queued_of, shown}
use Rattle.engine_turns.specs.Writes.{HasWritten, writing}
use Rattle.engine_threads.specs.Ended.{IsShared}
use Rattle.engine_threads.specs.Worked.{WorkedEach, does_shared, made_by}
use Rattle.engine_threads.specs.declared.ended.Passed.{Passed}

-- what a directory, the link in and the link out may do
pub record Behaviours (I O C : Type 0) : Type 1 where
  pub gives : C → Asked → Answer → C → Type 0
  pub receives : I → Heard → I → Type 0
  pub sends : O → List ℕ → Sent → O → Type 0

abbrev pub behaviours : {I O C : Type 0} → (C → Asked → Answer → C → Type 0) → (I → Heard → I → Type 0) → (O → List ℕ → Sent → O → Type 0) → Behaviours I O C
behaviours gives receives sends = record { gives = gives; receives = receives; sends = sends }

-- the links and the directories that a session is served with, or what is left of them
pub record Endpoints (I O C : Type 0) : Type 0 where
  pub link_in : I
  pub link_out : O
  pub calls : List C

abbrev pub served_with : {I O C : Type 0} → I → O → List C → Endpoints I O C
served_with link_in link_out calls = record { link_in = link_in; link_out = link_out; calls = calls }

-- A session was served by so many workers as there are directories, from the first byte of its links: what was received was queued, each job
-- was worked on by one worker and each reply offered, and these links and directories are left. Which thread made which calls on the
-- table is given; the writer's index comes after those of the workers.
pub record HasRun {I O C : Type 0} (by : Behaviours I O C) (settings : Settings) (calls_by : ℕ → List Call) (passed : Passed) (given left : Endpoints I O C) : Type 0 where
  pub numbers : numbers_of passed.passes.value.items ≡ range_with_len 0 (length given.calls)
  pub reads : ∥ HasReadAll by.receives (Some given.link_in) passed.input (queued_of (view passed.read.value).put) (option_map shown passed.last_job.value) left.link_in ∥₁
  pub shared : IsShared (view passed.read.value) passed.passes.value.items (view passed.written.value)
  pub worked : WorkedEach (does_shared by.gives) (Some settings) calls_by passed.last_job.value given.calls passed.passes.value.items left.calls
  pub writes : ∥ HasWritten by.sends (Some given.link_out) (length given.calls) (made_by calls_by (length given.calls)) (writing (view passed.written.value) left.link_out passed.is_broken) ∥₁

-- the last of these directories then removes the files that are still hidden, by the table's world at the end
pub record LastRemoves {C : Type 0} (gives : C → Asked → Answer → C → Type 0) (world : World) (lefts back : List C) : Type 0 where
  pub others : List C
  pub left : C
  pub lefts_are : lefts ≡ others ++ left ∷ []
  pub last : C
  pub back_are : back ≡ others ++ last ∷ []
  pub removes : RemovesLeft worlds gives left world last

-- Each call on the table was made by a worker or by the writer. What a worker did is what the jobs that it handled ask for; what the writer
-- did are the settles of the replies that it took. In the order in which they were made all these calls lead from the opened table to
-- its last world, each by its own step; the totals are those of that world's ledger. What comes back are the links as they were left,
-- and the directories, of which the last has removed the files that were still hidden.
pub record HasServed {I O C : Type 0} (by : Behaviours I O C) (limits : Limits) (settings : Settings) (passed : Passed) (totals : Totals) (given back : Endpoints I O C) (history : List Made) : Type 0 where
  pub run : IsHistory (opened_world limits) history
  -- from a request's begin to its finish the paths that it was given lead to the nodes that it holds
  pub current : StaysCurrent history
  pub totals_are : totals ≡ totals_over (last_world (opened_world limits) history).postings
  pub lefts : List C
  pub ran : HasRun by settings (λ index. calls_by index history) passed given (served_with back.link_in back.link_out lefts)
  pub removes : LastRemoves by.gives (last_world (opened_world limits) history) lefts back.calls
  pub nobody : (index : ℕ) → length given.calls + 1 ≤ index → calls_by index history ≡ []
  -- after each of these calls, each node with a hidden mark is at a reserved name
  pub hidden : All (λ (made : Made). KeepsHidden made.after) history
