-- A session with a table of its own.
use Rattle.std.specs.Prelude.{◌≡◌, ◌⊎◌, ◌++◌, List}
use Rattle.std.specs.Borrow.{Bor}
use Rattle.backing.specs.Calls.{Asked}
use Rattle.backing.specs.declared.call.Answer.{Answer}
use Rattle.handles.specs.Calls.{Shares}
use Rattle.handles.specs.declared.limits.FolderLimits.{FolderLimits}
use Rattle.engine.specs.Hiding.{hiding}
use Rattle.engine.specs.Serving.{around, does, made_of, turns_of, IsSessionRun, Traffic}
use Rattle.engine.specs.Tables.{worlds}
use Rattle.ops.specs.Scripts.{Made}
use Rattle.engine.specs.declared.ends.SessionEnd.{SessionEnd}
use Rattle.engine.specs.declared.ends.SessionEnd.TheVariants as end
use Rattle.terms.specs.declared.terms.Terms.{Terms}
use Rattle.table_steps.specs.World.{World, opened_world}
use Rattle.terms.specs.Limits.{limits_of}

-- how far the open folders may grow (own)
abbrev pub folder_limits : FolderLimits
folder_limits = record { folders = 4096; names = 1048576 }

-- a session with a new table, and open folders with these limits, over a directory as it was at first and as it was left
pub record IsServed {L C : Type 0} (terms : Terms) (link : Traffic L) (gives : C → Asked → Answer → C → Type 0) (first left : C) (old : L) (over : SessionEnd) (new : L) : Type 0 where
  pub world : World
  pub opened : world ≡ opened_world (limits_of terms.bounds)
  pub last : World
  pub dirs : Bor FolderLimits
  pub limits_are : dirs.now ≡ folder_limits
  pub dirs_left : Bor FolderLimits
  pub run : IsSessionRun worlds terms.settings link (does gives Shares) (around old (record { calls = first; dirs = dirs }) world) (around new (record { calls = left; dirs = dirs_left }) last) over
  -- after each call on the table, each node with a hidden mark is at a reserved name
  pub hidden : IsSessionRun hiding terms.settings link (does gives Shares) (around old (record { calls = first; dirs = dirs }) world) (around new (record { calls = left; dirs = dirs_left }) last) over

-- all calls that it made on the directory
abbrev pub calls_made : {L C : Type 0} {terms : Terms} {link : Traffic L} {gives : C → Asked → Answer → C → Type 0} {first left : C} {old : L} {over : SessionEnd} {new : L} → IsServed terms link gives first left old over new → List Made
calls_made served = made_of (turns_of served.run.client.steps) ++ served.run.removal.removals

-- memory for a table was refused: nothing was heard, offered or called
abbrev pub IsRefused : {L C : Type 0} → (first left : C) → (old : L) → SessionEnd → (new : L) → Type 0
IsRefused first left old over new = (over ≡ end.Memory) × (new ≡ old) × (left ≡ first)

-- a session, unless memory for a table was refused
abbrev pub ServesLink : {L C : Type 0} → Terms → Traffic L → (C → Asked → Answer → C → Type 0) → (first left : C) → (old : L) → SessionEnd → (new : L) → Type 0
ServesLink terms link gives first left old over new = IsServed terms link gives first left old over new ⊎ IsRefused first left old over new
