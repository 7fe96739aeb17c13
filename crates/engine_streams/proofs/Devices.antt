-- Reads and writes that are made again.
use Rattle.std.proofs.Common.{ℕ, zero, suc, ◌≡◌, true, ◌<◌, ◌≤◌, ◌++◌, ◌+◌, ◌-◌, inr, List, [], length, take, drop, Result, Err, refl, ap, sym, subst, ◌∙◌, arith}
use Rattle.engine.specs.Links.{Ended, Broke, Piece, counted, heard}
use Rattle.engine.specs.declared.links.Received.{Received}
use Rattle.engine.specs.declared.links.Received.TheVariants as received
use Rattle.engine_streams.specs.Device.{Came, Fails, Got, HandsOn, OnDevice, Reads, Receives, Refused, Passes, Interrupts, is_end, is_passing}
use Rattle.engine_streams.specs.declared.device.DeviceFault.{DeviceFault}
use Rattle.engine_streams.specs.declared.device.DeviceFault.TheVariants.{Gone, Interrupted, Nothing, Unmounted, Other}

-- one more after them
one_passes : {R : Type 0} (gives : R → Got → R → Type 0) (n : ℕ) (old mid new : R) (fault : DeviceFault) → Passes gives n old mid → is_passing fault ≡ true → gives mid (Refused fault) new → Passes gives (suc n) old new
one_passes {R = R} gives zero old mid new fault none passing step = (new, (fault, passing, subst (λ (r : R). gives r (Refused fault) new) none step), refl)
one_passes gives (suc n) old mid new fault before passing step = (before.0, before.1, one_passes gives n before.0 mid new fault before.2 passing step)

pub passes_on : {R : Type 0} (gives : R → Got → R → Type 0) (n : ℕ) (old mid new : R) (fault : DeviceFault) → Passes gives n old mid → is_passing fault ≡ true → gives mid (Refused fault) new → Passes gives (n + 1) old new
passes_on gives n old mid new fault before passing step =
    let next : suc n ≡ n + 1 = omega arith in
    subst (λ (k : ℕ). Passes gives k old new) next (one_passes gives n old mid new fault before passing step)

one_interrupts : {W : Type 0} (takes : W → List ℕ → Result ℕ DeviceFault → W → Type 0) (reply : List ℕ) (n : ℕ) (old mid new : W) → Interrupts takes reply n old mid → takes mid reply (Err Interrupted) new → Interrupts takes reply (suc n) old new
one_interrupts {W = W} takes reply zero old mid new none step = (new, subst (λ (w : W). takes w reply (Err Interrupted) new) none step, refl)
one_interrupts takes reply (suc n) old mid new before step = (before.0, before.1, one_interrupts takes reply n before.0 mid new before.2 step)

pub interrupts_on : {W : Type 0} (takes : W → List ℕ → Result ℕ DeviceFault → W → Type 0) (reply : List ℕ) (n : ℕ) (old mid new : W) → Interrupts takes reply n old mid → takes mid reply (Err Interrupted) new → Interrupts takes reply (n + 1) old new
interrupts_on takes reply n old mid new before step =
    let next : suc n ≡ n + 1 = omega arith in
    subst (λ (k : ℕ). Interrupts takes reply k old new) next (one_interrupts takes reply n old mid new before step)

-- ---- the result of a receive

-- a read that failed
is_end_is : (fault : DeviceFault) → is_end fault ≡ true → fault ≡ Unmounted
is_end_is Gone e = cc
is_end_is Interrupted e = cc
is_end_is Nothing e = cc
is_end_is Unmounted e = refl
is_end_is (Other number) e = cc

pub failed_so : {R W : Type 0} (gives : R → Got → R → Type 0) (old mid new : OnDevice R W) (fault : DeviceFault) (told : Received) (room : List ℕ) → old.kept ≡ [] → Reads gives old.requests (Refused fault) mid.requests
    → mid ≡ record old { requests = mid.requests } → Fails mid fault told new → Receives gives old (heard told room) new
failed_so gives old mid new fault (received.Bytes n) room none reads is fails = absurd fails
failed_so {R = R} {W = W} gives old mid new fault received.End room none reads is fails =
    let ended = subst (λ (f : DeviceFault). Reads gives old.requests (Refused f) mid.requests) (is_end_is fault fails.0) reads in
    subst (λ (l : OnDevice R W). Receives gives old Ended l) (sym fails.1) (none, ended, is)
failed_so {R = R} {W = W} gives old mid new fault received.Broken room none reads is fails =
    let count = ap {A = OnDevice R W} {B = OnDevice R W} (λ (l : OnDevice R W). record l { failures = counted l.failures 1 }) is in
    subst (λ (l : OnDevice R W). Receives gives old Broke l) (sym fails.1) (none, (fault, fails.0, reads), count)

-- the first bytes of a request that was read
pub first_handed : {R W : Type 0} (gives : R → Got → R → Type 0) (old mid new : OnDevice R W) (frame bytes : List ℕ) → old.kept ≡ [] → 0 < length frame → Reads gives old.requests (Came frame) mid.requests
    → mid ≡ record old { requests = mid.requests; kept = frame } → HandsOn mid bytes new → Receives gives old (Piece bytes) new
first_handed {R = R} {W = W} gives old mid new frame bytes none some reads is hands =
    let whole : frame ≡ bytes ++ new.kept = sym (ap (λ (l : OnDevice R W). l.kept) is) ∙ hands.0 in
    let same : new.requests ≡ mid.requests = ap (λ (l : OnDevice R W). l.requests) hands.1 in
    let came = subst (λ (r : R). Reads gives old.requests (Came (bytes ++ new.kept)) r) (sym same) (subst (λ (xs : List ℕ). Reads gives old.requests (Came xs) mid.requests) whole reads) in
    let kept = ap {A = OnDevice R W} {B = OnDevice R W} (λ (l : OnDevice R W). record l { kept = new.kept }) is in
    let moved = ap {A = R} {B = OnDevice R W} (λ (r : R). record old { requests = r; kept = new.kept }) (sym same) in
    inr (none, subst (λ (xs : List ℕ). 0 < length xs) whole some, came, hands.1 ∙ (kept ∙ moved))

-- a link that keeps no bytes
pub keeps_none : (frame : List ℕ) (from until : ℕ) → until ≤ from → take (until - from) (drop from frame) ≡ []
keeps_none frame from until past =
    let none : until - from ≡ 0 = omega (arith, past) in
    ap (λ (n : ℕ). take n (drop from frame)) none
