-- Replies that are written together.
use Rattle.std.specs.Prelude.{◌≡◌, ◌≤◌, ◌<◌, ℕ, suc, ◌-◌, Bool, true, false, List, [], ◌∷◌, ◌++◌, length, take, if◌then◌else◌, ltb}
use Rattle.engine.specs.Batches.{BeginsEach, SendsEach}
use Rattle.engine.specs.declared.links.Sent.{Sent}
use Rattle.engine_streams.specs.Streams.{Streaming, Sends}

-- how many of these replies are complete in the first bytes of all of them
abbrev pub whole_in : List (List ℕ) → ℕ → ℕ
whole_in [] written = 0
whole_in (frame ∷ frames) written = if ltb written (length frame) then 0 else suc (whole_in frames (written - length frame))

-- Replies from the front of the list are offered: at least one, and none of them broke the link; or all of them up to
-- the one that broke it.
abbrev pub SendsSome : Streaming → List (List ℕ) → Streaming → List Sent → (stands : Bool) → Type 0
SendsSome old frames new sents true = (0 < length sents) × (length sents ≤ length frames) × BeginsEach Sends old (take (length sents) frames) sents new
SendsSome old frames new sents false = SendsEach Sends old frames sents new

-- what became of them is appended to what was reported before
abbrev pub SendsFirst : Streaming → List (List ℕ) → List Sent → Streaming → List Sent → (stands : Bool) → Type 0
SendsFirst old frames before new after stands = (sents : List Sent) × (after ≡ before ++ sents) × SendsSome old frames new sents stands
