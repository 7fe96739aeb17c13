-- The kernel's FUSE device: a read returns a request, a write takes a reply.
use Rattle.std.specs.Prelude.{ℕ, ℤ, pos, ◌≡◌, ◌≢◌, ◌⊎◌, ◌<◌, ◌^◌, ◌-◌, ◌++◌, zero, suc, Bool, true, false, List, [], length, take, Result, Ok, Err}
use Rattle.engine.specs.Links.{Heard, Piece, Ended, Broke, counted}
use Rattle.engine.specs.declared.links.Received.{Received}
use Rattle.engine.specs.declared.links.Received.TheVariants as received
use Rattle.engine.specs.declared.links.Sent.{Sent}
use Rattle.engine.specs.declared.links.Sent.TheVariants as sent
use Rattle.engine_streams.specs.declared.device.DeviceFault.{DeviceFault}
use Rattle.engine_streams.specs.declared.device.DeviceFault.TheVariants.{Gone, Interrupted, Nothing, Unmounted, Other}

-- ---- failures, by their error numbers in Linux

-- which failure an error number means
abbrev pub Means : (errno : ℤ) → DeviceFault → Type 0
Means errno Gone = errno ≡ pos 2
Means errno Interrupted = errno ≡ pos 4
Means errno Nothing = errno ≡ pos 11
Means errno Unmounted = errno ≡ pos 19
Means errno (Other number) = (number ≡ errno) × (errno ≢ pos 2) × (errno ≢ pos 4) × (errno ≢ pos 11) × (errno ≢ pos 19)

-- whether the read is made again after this failure: the request was given up before it was read, or a signal
-- interrupted the read, or there is nothing to read now
abbrev pub is_passing : DeviceFault → Bool
is_passing Gone = true
is_passing Interrupted = true
is_passing Nothing = true
is_passing Unmounted = false
is_passing (Other number) = false

-- whether the file system is not mounted any more
abbrev pub is_end : DeviceFault → Bool
is_end Gone = false
is_end Interrupted = false
is_end Nothing = false
is_end Unmounted = true
is_end (Other number) = false

-- ---- reads

-- what a read returned: the bytes of a request, or a failure
pub data Got : Type 0 where
  Came : (bytes : List ℕ) → Got
  Refused : (fault : DeviceFault) → Got

-- the same, in terms of the buffer that was filled
abbrev pub got : Result ℕ DeviceFault → List ℕ → Got
got (Ok n) room = Came (take n room)
got (Err fault) room = Refused fault

-- that many reads, each of which is followed by another
abbrev pub Passes : {R : Type 0} → (R → Got → R → Type 0) → (n : ℕ) → R → R → Type 0
Passes gives zero old new = new ≡ old
Passes {R = R} gives (suc n) old new = (mid : R) × ((fault : DeviceFault) × (is_passing fault ≡ true) × gives old (Refused fault) mid) × Passes gives n mid new

-- after that many of them the next one is the last, whatever it returns
abbrev pub most_reads : ℕ
most_reads = 2 ^ 64 - 1

abbrev pub IsLast : (n : ℕ) → Got → Type 0
IsLast n (Came bytes) = Unit {0}
IsLast n (Refused fault) = is_passing fault ≡ true → n ≡ most_reads

-- reads up to one whose result is returned
pub record Reads {R : Type 0} (gives : R → Got → R → Type 0) (old : R) (told : Got) (new : R) : Type 0 where
  pub tries : ℕ
  pub mid : R
  pub passes : Passes gives tries old mid
  pub last : gives mid told new
  pub is_last : IsLast tries told

-- ---- writes

-- that many writes that were interrupted by a signal
abbrev pub Interrupts : {W : Type 0} → (W → List ℕ → Result ℕ DeviceFault → W → Type 0) → List ℕ → (n : ℕ) → W → W → Type 0
Interrupts takes reply zero old new = new ≡ old
Interrupts {W = W} takes reply (suc n) old new = (mid : W) × takes old reply (Err Interrupted) mid × Interrupts takes reply n mid new

-- a reply is written with one write, which is made again if it was interrupted by a signal
pub record Writes {W : Type 0} (takes : W → List ℕ → Result ℕ DeviceFault → W → Type 0) (old : W) (reply : List ℕ) (told : Result ℕ DeviceFault) (new : W) : Type 0 where
  pub tries : ℕ
  pub mid : W
  pub interrupts : Interrupts takes reply tries old mid
  pub last : takes mid reply told new
  pub is_last : told ≡ Err Interrupted → tries ≡ most_reads

-- a write that breaks the link: it took a part of the reply, or failed for another reason than that nobody waits for it
abbrev pub IsBreak : List ℕ → Result ℕ DeviceFault → Type 0
IsBreak reply (Ok n) = n < length reply
IsBreak reply (Err fault) = fault ≢ Gone

-- ---- a link over it

pub record OnDevice (R W : Type 0) : Type 0 where
  pub requests : R
  pub replies : W
  -- the bytes of the last request that were not returned yet
  pub kept : List ℕ
  -- how many of its calls have failed
  pub failures : ℕ

-- before its first call
abbrev pub unused : {R W : Type 0} → R → W → OnDevice R W
unused requests replies = record { requests = requests; replies = replies; kept = []; failures = 0 }

-- a request was read, and these are its first bytes
abbrev pub Hands : {R W : Type 0} → (R → Got → R → Type 0) → OnDevice R W → List ℕ → OnDevice R W → Type 0
Hands gives old bytes new = (old.kept ≡ []) × (0 < length (bytes ++ new.kept)) × Reads gives old.requests (Came (bytes ++ new.kept)) new.requests
    × (new ≡ record old { requests = new.requests; kept = new.kept })

-- these are further bytes of the request that was read before
abbrev pub HandsOn : {R W : Type 0} → OnDevice R W → List ℕ → OnDevice R W → Type 0
HandsOn old bytes new = (old.kept ≡ bytes ++ new.kept) × (new ≡ record old { kept = new.kept })

-- What comes is a request, whole unless there was too little room: then the rest comes first the next time. The input
-- ends when the file system is not mounted any more. Any other failure breaks the link, and counts.
abbrev pub Receives : {R W : Type 0} → (R → Got → R → Type 0) → OnDevice R W → Heard → OnDevice R W → Type 0
Receives gives old (Piece bytes) new = HandsOn old bytes new ⊎ Hands gives old bytes new
Receives gives old Ended new = (old.kept ≡ []) × Reads gives old.requests (Refused Unmounted) new.requests
    × (new ≡ record old { requests = new.requests })
Receives gives old Broke new = (old.kept ≡ []) × ((fault : DeviceFault) × (is_end fault ≡ false) × Reads gives old.requests (Refused fault) new.requests)
    × (new ≡ record old { requests = new.requests; failures = counted old.failures 1 })

-- the result of a receive after a read that failed: the file system is not mounted any more, or the link is broken,
-- which counts
abbrev pub Fails : {R W : Type 0} → OnDevice R W → DeviceFault → Received → OnDevice R W → Type 0
Fails old fault (received.Bytes n) new = ⊥
Fails old fault received.End new = (is_end fault ≡ true) × (new ≡ old)
Fails old fault received.Broken new = (is_end fault ≡ false) × (new ≡ record old { failures = counted old.failures 1 })

-- A reply that was taken was written completely, by one write. One that nobody waits for is untaken. That and a break
-- both count.
abbrev pub Sends : {R W : Type 0} → (W → List ℕ → Result ℕ DeviceFault → W → Type 0) → OnDevice R W → List ℕ → Sent → OnDevice R W → Type 0
Sends takes old reply sent.Taken new = Writes takes old.replies reply (Ok (length reply)) new.replies × (new ≡ record old { replies = new.replies })
Sends takes old reply sent.Untaken new = Writes takes old.replies reply (Err Gone) new.replies
    × (new ≡ record old { replies = new.replies; failures = counted old.failures 1 })
Sends takes old reply sent.Broken new = ((told : Result ℕ DeviceFault) × IsBreak reply told × Writes takes old.replies reply told new.replies)
    × (new ≡ record old { replies = new.replies; failures = counted old.failures 1 })
