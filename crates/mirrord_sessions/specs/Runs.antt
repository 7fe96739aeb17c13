-- Runs of the programs `hex` and `pipe`, and of no program.
use Rattle.std.specs.Prelude.{ℕ, ◌≡◌, ◌≢◌, ◌⊎◌, ◌++◌, Bool, List, take, Option, Some, Result}
use Rattle.std.specs.Borrow.{Bor}
use Rattle.std.specs.Io.KnownBytes.{Appends}
use Rattle.backing.specs.Calls.{memory_limit}
use Rattle.backing.specs.Memory.{Memory as MemTree, Gives, memory_tree}
use Rattle.disk_folder.specs.Gives.{Claims}
use Rattle.clap.specs.Words.{Text}
use Rattle.clap.specs.declared.error.kind.ErrorKind.{ErrorKind}
use Rattle.clap.specs.declared.error.kind.ErrorKind.TheVariants.{OutOfMemory, DisplayHelp, DisplayVersion}
use Rattle.engine.specs.Serving.{events_of, traffic}
use Rattle.engine.specs.declared.ends.SessionEnd.{SessionEnd}
use Rattle.engine.specs.declared.ends.SessionEnd.TheVariants as end
use Rattle.terms.specs.declared.settings.AttributeSource.TheVariants.{Fixed}
use Rattle.terms.specs.declared.settings.Names.TheVariants as names_of
use Rattle.terms.specs.declared.settings.Kinds.{Kinds}
use Rattle.mirrord_sessions.specs.Folders.{ServesFolder}
use Rattle.mirrord_sessions.specs.Known.{known_calls, IsKnownServed}
use Rattle.mirrord_sessions.specs.declared.folder.Unserved.{Unserved}
use Rattle.mirrord_sessions.specs.declared.runs.TreeServed.{TreeServed}
use Rattle.terms.specs.declared.terms.Terms.{Terms}
use Rattle.mirrord_commands.specs.declared.faults.Failure.TheVariants.{Stopped, Refused as Refuses}
use Rattle.mirrord_commands.specs.declared.faults.Fault.TheVariants.{Memory, Seed}
use Rattle.mirrord_commands.specs.declared.refusals.OptionsRefusal.{OptionsRefusal}
use Rattle.mirrord_sessions.specs.Ends.{exit_of, failure_after, failure_of, Tells}
use Rattle.mirrord_sessions.specs.Lines.{Hexing, Receives, Sends, broken_line, lines_in, unread}
use Rattle.mirrord_sessions.specs.Samples.{IsStart}
use Rattle.terms.specs.declared.limits.Counts.TheVariants.{Bounded}

-- ---- the program `hex`

-- the owner is user 0 and group 0
abbrev pub unowned : (kinds : Kinds) → (postings : ℕ) → Terms
unowned kinds postings = record { settings = record { attributes = Fixed 0 0; kinds = kinds; names = names_of.Text }; bounds = record { nodes = 65536; files = 4096; requests = 64; postings = postings; counts = Bounded } }

-- how often calls of a memory tree have failed
abbrev pub failed_in : MemTree → ℕ
failed_in m = m.failed

-- A link of hexadecimal lines is served from a new tree in memory. Its writer is given the replies that were taken, one
-- line each, then some first part of the line of one that broke it, if one did, and nothing else.
pub record IsHexServed (by : TreeServed) (old : Hexing) (over : SessionEnd) (new : Hexing) : Type 0 where
  pub tree : MemTree
  pub start : IsStart by.sample tree
  pub left : MemTree
  pub known : IsKnownServed (unowned by.kinds by.postings) (traffic Receives Sends) (known_calls Gives memory_limit memory_tree failed_in) tree left old over new
  pub part : ℕ
  pub written : Appends old.output new.output (lines_in (events_of known.served.run.client.steps) ++ take part (broken_line (events_of known.served.run.client.steps)))

-- the same, unless memory for a tree or a table was refused
abbrev pub ServesHex : TreeServed → Hexing → SessionEnd → Hexing → Type 0
ServesHex by old over new = IsHexServed by old over new ⊎ ((over ≡ end.Memory) × (new ≡ old))

-- its status, and everything that it writes
pub record RunsHex (by : TreeServed) (input output output' faults faults' : Option (List ℕ)) (status : ℕ) (told : Bool) : Type 0 where
  pub over : SessionEnd
  pub last : Hexing
  pub serves : ServesHex by (unread input output) over last
  pub output_is : output' ≡ last.output
  pub status_is : status ≡ exit_of (failure_of over last.cause)
  pub tells : Tells (failure_of over last.cause) told faults faults'

-- the same, unless the system gives no seeds: then nothing is read and nothing is written
pub record HasNoSeed (output output' faults faults' : Option (List ℕ)) (status : ℕ) (told : Bool) : Type 0 where
  pub output_is : output' ≡ output
  pub status_is : status ≡ 4
  pub tells : Tells (Some (Stopped Seed)) told faults faults'

abbrev pub RunsSeeded : TreeServed → (input output output' faults faults' : Option (List ℕ)) → (status : ℕ) → (told : Bool) → Type 0
RunsSeeded by input output output' faults faults' status told =
    RunsHex by input output output' faults faults' status told ⊎ HasNoSeed output output' faults faults' status told

-- ---- the program `pipe`

-- how serving a folder ends: the status, and what is written
abbrev pub IsEnded : Result SessionEnd Unserved → (root path : Bor Text) → (faults faults' : Option (List ℕ)) → (status : ℕ) → (told : Bool) → Type 0
IsEnded ended root path faults faults' status told =
    (status ≡ exit_of (failure_after ended root path)) × Tells (failure_after ended root path) told faults faults'

-- A folder of a disk is served over standard input and output.
pub record RunsPipe {D : Type 0} (disk : Claims D) (root : Bor Text) (terms : Terms) (input output output' faults faults' : Option (List ℕ)) (status : ℕ) (told : Bool) : Type 0 where
  pub ended : Result SessionEnd Unserved
  pub serves : ServesFolder disk terms input output ended output'
  pub path : Bor Text
  pub ends : IsEnded ended root path faults faults' status told

-- ---- no program

-- How the program ends if clap does not accept the command line: if memory was refused, with the status and line for
-- that, and nothing is written to the output; for help and the version with their status, and nothing is written to
-- standard error; for an error in it with its status, and nothing is written to the output.
pub record IsUnserved (kind : ErrorKind) (output output' faults faults' : Option (List ℕ)) (status : ℕ) (told : Bool) : Type 0 where
  pub memory : kind ≡ OutOfMemory → (status ≡ 4) × (output' ≡ output) × Tells (Some (Stopped Memory)) told faults faults'
  pub help : (kind ≡ DisplayHelp) ⊎ (kind ≡ DisplayVersion) → (status ≡ 0) × (faults' ≡ faults)
  pub fault : kind ≢ OutOfMemory → kind ≢ DisplayHelp → kind ≢ DisplayVersion → (status ≡ 2) × (output' ≡ output)

-- options that cannot be used: nothing is read, and nothing is written to the output
pub record IsRefusedBy (refusal : OptionsRefusal) (output output' faults faults' : Option (List ℕ)) (status : ℕ) (told : Bool) : Type 0 where
  pub status_is : status ≡ 2
  pub output_is : output' ≡ output
  pub tells : Tells (Some (Refuses refusal)) told faults faults'
