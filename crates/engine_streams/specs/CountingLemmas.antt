-- A link over a stream counts its failures.
use Rattle.std.proofs.Common.{ℕ, ◌≡◌, List, ap, ◌∙◌, arith}
use Rattle.engine.specs.Links.{Heard, Piece, Ended, Broke, counted, lost, missed}
use Rattle.engine.specs.declared.links.Sent.{Sent}
use Rattle.engine.specs.declared.links.Sent.TheVariants as sent
use Rattle.engine_streams.specs.Streams.{Streaming, Receives, Sends}

-- without failures the count does not change
none_more : (n : ℕ) → n ≡ counted n 0
none_more n = omega arith

pub receives_counted : (old new : Streaming) (heard : Heard) → Receives old heard new → new.failures ≡ counted old.failures (lost heard)
receives_counted old new (Piece bytes) r = ap (λ (l : Streaming). l.failures) r.2 ∙ none_more old.failures
receives_counted old new Ended r = ap (λ (l : Streaming). l.failures) r.3 ∙ none_more old.failures
receives_counted old new Broke r = ap (λ (l : Streaming). l.failures) r.2

pub sends_counted : (old new : Streaming) (bytes : List ℕ) (s : Sent) → Sends old bytes s new → new.failures ≡ counted old.failures (missed s)
sends_counted old new bytes sent.Taken s = ap (λ (l : Streaming). l.failures) s.1 ∙ none_more old.failures
sends_counted old new bytes sent.Untaken s = absurd s
sends_counted old new bytes sent.Broken s = ap (λ (l : Streaming). l.failures) s.1
