-- A link over the device counts its failures.
use Rattle.std.proofs.Common.{ℕ, ◌≡◌, inl, inr, List, Result, ap, ◌∙◌, arith}
use Rattle.engine.specs.Links.{Heard, Piece, Ended, Broke, counted, lost, missed}
use Rattle.engine.specs.declared.links.Sent.{Sent}
use Rattle.engine.specs.declared.links.Sent.TheVariants as sent
use Rattle.engine_streams.specs.declared.device.DeviceFault.{DeviceFault}
use Rattle.engine_streams.specs.Device.{Got, OnDevice, Receives, Sends}

-- without failures the count does not change
none_more : (n : ℕ) → n ≡ counted n 0
none_more n = omega arith

pub receives_counted : {R W : Type 0} (gives : R → Got → R → Type 0) (old new : OnDevice R W) (heard : Heard) → Receives gives old heard new → new.failures ≡ counted old.failures (lost heard)
receives_counted {R = R} {W = W} gives old new (Piece bytes) (inl r) = ap (λ (l : OnDevice R W). l.failures) r.1 ∙ none_more old.failures
receives_counted {R = R} {W = W} gives old new (Piece bytes) (inr r) = ap (λ (l : OnDevice R W). l.failures) r.3 ∙ none_more old.failures
receives_counted {R = R} {W = W} gives old new Ended r = ap (λ (l : OnDevice R W). l.failures) r.2 ∙ none_more old.failures
receives_counted {R = R} {W = W} gives old new Broke r = ap (λ (l : OnDevice R W). l.failures) r.2

pub sends_counted : {R W : Type 0} (takes : W → List ℕ → Result ℕ DeviceFault → W → Type 0) (old new : OnDevice R W) (bytes : List ℕ) (s : Sent) → Sends takes old bytes s new → new.failures ≡ counted old.failures (missed s)
sends_counted {R = R} {W = W} takes old new bytes sent.Taken s = ap (λ (l : OnDevice R W). l.failures) s.1 ∙ none_more old.failures
sends_counted {R = R} {W = W} takes old new bytes sent.Untaken s = ap (λ (l : OnDevice R W). l.failures) s.1
sends_counted {R = R} {W = W} takes old new bytes sent.Broken s = ap (λ (l : OnDevice R W). l.failures) s.1
