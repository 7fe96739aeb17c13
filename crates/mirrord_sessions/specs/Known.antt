-- Sessions on a directory with a known tree.
use Rattle.std.specs.Prelude.{ℕ, ◌⊎◌, Option}
use Rattle.backing.specs.Calls.{Asked}
use Rattle.backing.specs.Tree.{Tree}
use Rattle.backing.specs.declared.call.Answer.{Answer}
use Rattle.engine.specs.Serving.{Traffic}
use Rattle.engine.specs.declared.ends.SessionEnd.{SessionEnd}
use Rattle.engine.specs.Known.{KnownRun}
use Rattle.terms.specs.declared.terms.Terms.{Terms}
use Rattle.mirrord_sessions.specs.Sessions.{calls_made, IsRefused, IsServed}

-- what calls of a directory may answer that tells the tree in it, how long a file may be there, and its count of failures
pub record KnownCalls (C : Type 0) : Type 1 where
  pub gives : C → Asked → Answer → C → Type 0
  pub limit : Option ℕ
  pub tree : C → Tree
  pub faults : C → ℕ

abbrev pub known_calls : {C : Type 0} → (C → Asked → Answer → C → Type 0) → Option ℕ → (C → Tree) → (C → ℕ) → KnownCalls C
known_calls gives limit tree faults = record { gives = gives; limit = limit; tree = tree; faults = faults }

-- All calls of a session are calls on the tree, from the first to the last, with the failures of its device as inputs;
-- each is counted, and nothing else is.
pub record IsKnownServed {L C : Type 0} (terms : Terms) (link : Traffic L) (calls : KnownCalls C) (first left : C) (old : L) (over : SessionEnd) (new : L) : Type 0 where
  pub served : IsServed terms link calls.gives first left old over new
  pub known : KnownRun calls.limit calls.tree calls.faults first (calls_made served) left

-- the same, unless memory for a table was refused
abbrev pub ServesKnown : {L C : Type 0} → Terms → Traffic L → KnownCalls C → (first left : C) → (old : L) → SessionEnd → (new : L) → Type 0
ServesKnown terms link calls first left old over new = IsKnownServed terms link calls first left old over new ⊎ IsRefused first left old over new
