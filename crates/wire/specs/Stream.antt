-- A stream cut into frames, each as long as its first four bytes say.
use Rattle.std.specs.Prelude.{◌≡◌, ℕ, ◌<◌, ◌≤◌, ◌⊎◌, List, [], ◌∷◌, ◌++◌, drop, length, Option, Some, None}
use Rattle.std.specs.List.{AllByRecursion}
use Rattle.byteorder.specs.Endian.{little_number}
use Rattle.wire.specs.declared.request.TheConstants.{HEADER_LEN, MAX_FRAME_LEN}
use Rattle.wire.specs.Requests.{IsFramed}

-- the state of a cutter: the bytes that are not part of a frame returned so far, and the length that stopped it
pub record Cutting : Type 0 where
  pub kept : List ℕ
  pub stopped : Option ℕ

-- the length of the next frame
abbrev pub len_in : List ℕ → ℕ
len_in kept = little_number 4 kept

-- a length that a frame may have
pub record IsLawfulLength (len : ℕ) : Type 0 where
  pub long : HEADER_LEN ≤ len
  pub short : len ≤ MAX_FRAME_LEN

-- the next length is one that no frame may have
pub record BeginsBadly (kept : List ℕ) (len : ℕ) : Type 0 where
  pub there : 4 ≤ length kept
  pub is : len ≡ len_in kept
  pub lawless : (len < HEADER_LEN) ⊎ (MAX_FRAME_LEN < len)

-- a whole frame is removed from the front
pub record HandsOut (old : Cutting) (frame : List ℕ) (new : Cutting) : Type 0 where
  pub front : old.kept ≡ frame ++ new.kept
  pub framed : IsFramed frame
  pub stopped : new.stopped ≡ old.stopped

-- the kept bytes begin with a whole frame
pub record StandsFirst (old : Cutting) (frame : List ℕ) : Type 0 where
  pub front : old.kept ≡ frame ++ drop (length frame) old.kept
  pub framed : IsFramed frame
  pub going : old.stopped ≡ None

-- the kept bytes begin neither with a whole frame nor with a length that no frame may have
abbrev pub IsPartial : List ℕ → Type 0
IsPartial kept = (length kept < 4) ⊎ (IsLawfulLength (len_in kept) × (length kept < len_in kept))

-- if a length stopped the cutter, the kept bytes begin with it
abbrev pub StoppedBy : List ℕ → Option ℕ → Type 0
StoppedBy kept None = Unit {0}
StoppedBy kept (Some len) = BeginsBadly kept len

-- the frames joined one after another
abbrev pub joined : List (List ℕ) → List ℕ
joined [] = []
joined (frame ∷ frames) = frame ++ joined frames

-- the stream is these frames followed by a rest that begins with no whole frame
pub record Splits (stream : List ℕ) (frames : List (List ℕ)) (rest : List ℕ) : Type 0 where
  pub whole : stream ≡ joined frames ++ rest
  pub each : AllByRecursion IsFramed frames
  pub ends : (frame more : List ℕ) → IsFramed frame → rest ≡ frame ++ more → ⊥
