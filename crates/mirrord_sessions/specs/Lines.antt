-- What a link of hexadecimal lines has read and written.
use Rattle.std.specs.Prelude.{ℕ, ◌≡◌, ◌≢◌, ◌+◌, ◌-◌, ◌^◌, ◌<◌, min, List, [], ◌∷◌, ◌++◌, length, take, drop, Option, Some, None, IfSome, IsErr, Ok}
use Rattle.std.specs.Io.KnownBytes.{Appends, IsAtEnd}
use Rattle.std.specs.Io.BufRead.{first_piece, DropsThrough}
use Rattle.hex.specs.Hex.{decode_of, encode_lower}
use Rattle.engine.specs.Links.{Heard, Piece, Ended, Broke, Event, In, Out, counted}
use Rattle.engine.specs.declared.links.Sent.{Sent}
use Rattle.engine.specs.declared.links.Sent.TheVariants as sent
use Rattle.engine_streams.specs.Writing.{AppendsPart}
use Rattle.mirrord_commands.specs.declared.faults.Fault.{Fault}
use Rattle.mirrord_commands.specs.declared.faults.Fault.TheVariants as fault

-- a link of hexadecimal lines
pub record Hexing : Type 0 where
  -- how many lines were read
  pub lines : ℕ
  -- those bytes of the last line that were not returned yet
  pub kept : List ℕ
  -- the bytes that its reader still has, and those that its writer has, if they are known
  pub input : Option (List ℕ)
  pub output : Option (List ℕ)
  -- why the link is broken
  pub cause : Option Fault
  -- how many of its calls have failed
  pub failures : ℕ

-- before its first line
abbrev pub unread : Option (List ℕ) → Option (List ℕ) → Hexing
unread input output = record { lines = 0; kept = []; input = input; output = output; cause = None; failures = 0 }

-- ---- reading

-- one more line was read, and the bytes that it spells are kept
pub record ReadsLine (old new : Hexing) : Type 0 where
  pub counted : new.lines ≡ min (old.lines + 1) (2 ^ 64 - 1)
  pub spelt : IfSome old.input (λ xs. (xs ≢ []) × (decode_of (first_piece 10 xs) ≡ Ok new.kept))
  pub rest : DropsThrough old.input new.input 10
  pub others : new ≡ record old { lines = new.lines; kept = new.kept; input = new.input }

-- what is kept is returned before the next line is read
pub record HasPiece (old new : Hexing) : Type 0 where
  pub kept : 0 < length old.kept → new ≡ old
  pub line : old.kept ≡ [] → ReadsLine old new

-- that many of the kept bytes are returned
pub record HandsOut (old : Hexing) (n : ℕ) (bytes : List ℕ) (new : Hexing) : Type 0 where
  pub prefix : bytes ≡ take n old.kept
  pub rest : new ≡ record old { kept = drop n old.kept }

-- Why reading failed: the next line is not hexadecimal; or no line was read, since the reader failed; or memory was
-- refused.
abbrev pub Explains : Hexing → Hexing → Fault → Type 0
Explains old new (fault.FrameLength len) = ⊥
Explains old new (fault.Line n) =
    (n ≡ new.lines) × (new.lines ≡ min (old.lines + 1) (2 ^ 64 - 1))
    × IfSome old.input (λ xs. (xs ≢ []) × IsErr (decode_of (first_piece 10 xs)))
Explains old new fault.Link = new.lines ≡ old.lines
Explains old new fault.Memory = Unit {0}
Explains old new fault.Descriptors = ⊥
Explains old new fault.Seed = ⊥
Explains old new fault.Workers = ⊥

abbrev pub Receives : Hexing → Heard → Hexing → Type 0
Receives old (Piece bytes) new = (mid : Hexing) × HasPiece old mid × ((n : ℕ) × HandsOut mid n bytes new)
Receives old Ended new = (old.kept ≡ []) × IsAtEnd old.input × (new ≡ record old { kept = []; input = new.input })
Receives old Broke new =
    (old.kept ≡ []) × ((cause : Fault) × Explains old new cause
    × (new ≡ record old { lines = new.lines; kept = []; input = new.input; cause = Some cause; failures = counted old.failures 1 }))

-- ---- writing

-- a frame as a line of lower-case digits
abbrev pub line : List ℕ → List ℕ
line frame = encode_lower frame ++ 10 ∷ []

-- a reply was not written completely: the writer failed, or memory was refused
abbrev pub IsOfWriting : Fault → Type 0
IsOfWriting (fault.FrameLength len) = ⊥
IsOfWriting (fault.Line n) = ⊥
IsOfWriting fault.Link = Unit {0}
IsOfWriting fault.Memory = Unit {0}
IsOfWriting fault.Descriptors = ⊥
IsOfWriting fault.Seed = ⊥
IsOfWriting fault.Workers = ⊥

-- A reply that was taken is one line. Of one that broke the link some first part of its line may have been written, and
-- nothing else.
abbrev pub Sends : Hexing → List ℕ → Sent → Hexing → Type 0
Sends old frame sent.Taken new = Appends old.output new.output (line frame) × (new ≡ record old { output = new.output })
Sends old frame sent.Untaken new = ⊥
Sends old frame sent.Broken new =
    AppendsPart old.output new.output (line frame)
    × ((cause : Fault) × IsOfWriting cause × (new ≡ record old { output = new.output; cause = Some cause; failures = counted old.failures 1 }))

-- ---- everything that was written

-- the replies that were taken, one line each
abbrev pub lines_in : List Event → List ℕ
lines_in [] = []
lines_in (In heard ∷ events) = lines_in events
lines_in (Out frame sent.Taken ∷ events) = line frame ++ lines_in events
lines_in (Out frame sent.Untaken ∷ events) = lines_in events
lines_in (Out frame sent.Broken ∷ events) = lines_in events

-- the line of the reply that broke the link, or nothing if none did
abbrev pub broken_line : List Event → List ℕ
broken_line [] = []
broken_line (In heard ∷ events) = broken_line events
broken_line (Out frame sent.Taken ∷ events) = broken_line events
broken_line (Out frame sent.Untaken ∷ events) = broken_line events
broken_line (Out frame sent.Broken ∷ events) = line frame
