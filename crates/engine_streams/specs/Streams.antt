-- What a link over a stream has read and written.
use Rattle.std.specs.Prelude.{ℕ, ◌≡◌, List, [], Option}
use Rattle.std.specs.Io.KnownBytes.{Appends, Consumes, IsAtEnd, Keeps}
use Rattle.engine.specs.Links.{Heard, Piece, Ended, Broke, counted}
use Rattle.engine.specs.declared.links.Sent.{Sent}
use Rattle.engine.specs.declared.links.Sent.TheVariants as sent
use Rattle.engine_streams.specs.Writing.{AppendsPart}

-- a link over a stream
pub record Streaming : Type 0 where
  -- the bytes that its reader still has, and those that its writer has, if they are known
  pub input : Option (List ℕ)
  pub output : Option (List ℕ)
  -- how many of its calls have failed
  pub failures : ℕ

-- before its first call
abbrev pub unused : Option (List ℕ) → Option (List ℕ) → Streaming
unused input output = record { input = input; output = output; failures = 0 }

-- The bytes that come are the next ones of the reader. The input ends only if no byte is left. A break takes none, and
-- counts. What the writer was given does not change, if it is known.
abbrev pub Receives : Streaming → Heard → Streaming → Type 0
Receives old (Piece bytes) new = Consumes old.input new.input bytes × Keeps old.output new.output × (new ≡ record old { input = new.input; output = new.output })
Receives old Ended new = Consumes old.input new.input [] × IsAtEnd new.input × Keeps old.output new.output × (new ≡ record old { input = new.input; output = new.output })
Receives old Broke new = Keeps old.input new.input × Keeps old.output new.output × (new ≡ record old { input = new.input; output = new.output; failures = counted old.failures 1 })

-- A reply that was taken is written completely. None is untaken. A break counts; some first part of the reply may have
-- been written, and nothing else.
abbrev pub Sends : Streaming → List ℕ → Sent → Streaming → Type 0
Sends old frame sent.Taken new = Appends old.output new.output frame × (new ≡ record old { output = new.output })
Sends old frame sent.Untaken new = ⊥
Sends old frame sent.Broken new = AppendsPart old.output new.output frame × (new ≡ record old { output = new.output; failures = counted old.failures 1 })
