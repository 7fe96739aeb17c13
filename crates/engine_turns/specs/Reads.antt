-- What a reader has done since it began.
use Rattle.std.specs.Prelude.{◌≡◌, false, List, [], Option, Some, None}
use Rattle.engine.specs.Links.{Heard}
use Rattle.engine.specs.declared.ends.SessionEnd.{SessionEnd}
use Rattle.engine_turns.specs.Verdicts.{Progress, Queued, Reading, ReadsAll, ReadsOn}

-- a reader that has received nothing
abbrev pub beginning : {L : Type 0} → L → Reading L
beginning link = record { link = link; so_far = record { kept = []; unkept = []; agreed = false; put = []; last_job = None; handed_back = None } }

-- any number of receives; if there is an end, the last one ended the session
abbrev pub ReadsSo : {L : Type 0} → (L → Heard → L → Type 0) → (old : Reading L) → Option SessionEnd → (now : Reading L) → Type 0
ReadsSo receives old None now = ReadsOn receives old now
ReadsSo receives old (Some end) now = ReadsAll receives old end now

-- it began with this link, and has read this far
pub record HasRead {L : Type 0} (receives : L → Heard → L → Type 0) (from : Option L) (end : Option SessionEnd) (now : Reading L) : Type 0 where
  pub link : L
  pub began : from ≡ Some link
  pub reads : ReadsSo receives (beginning link) end now

-- after it has ended: these jobs were queued, this frame ended the session, if one did, and the link is left like this. No job was
-- returned by the queue
pub record HasReadAll {L : Type 0} (receives : L → Heard → L → Type 0) (from : Option L) (end : Option SessionEnd) (put : List Queued) (last_job : Option Queued) (left : L) : Type 0 where
  pub last : Progress
  pub put_is : put ≡ last.put
  pub last_job_is : last_job ≡ last.last_job
  pub none_back : last.handed_back ≡ None
  pub read : HasRead receives from end (record { link = left; so_far = last })
