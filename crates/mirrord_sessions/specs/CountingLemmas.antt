-- A link of hexadecimal lines counts its failures.
use Rattle.std.proofs.Common.{ℕ, ◌≡◌, List, [], ◌∷◌, refl, ap, ◌∙◌, arith}
use Rattle.engine.specs.Links.{Heard, Piece, Ended, Broke, counted, lost, missed}
use Rattle.engine.specs.declared.links.Sent.{Sent}
use Rattle.engine.specs.declared.links.Sent.TheVariants as sent
use Rattle.mirrord_sessions.specs.Lines.{Hexing, HasPiece, Receives, Sends}

-- without failures the count does not change
none_more : (n : ℕ) → n ≡ counted n 0
none_more n = omega arith

-- reading or keeping a line changes neither the output nor the counts
pub same_failures : (old mid : Hexing) (kept : List ℕ) → old.kept ≡ kept → HasPiece old mid → mid.failures ≡ old.failures
same_failures old mid [] none has = ap (λ (l : Hexing). l.failures) (has.line none).others
same_failures old mid (x ∷ xs) some has = ap (λ (l : Hexing). l.failures) (has.kept (rw some (omega arith)))

pub receives_counted : (old new : Hexing) (heard : Heard) → Receives old heard new → new.failures ≡ counted old.failures (lost heard)
receives_counted old new (Piece bytes) r = ap (λ (l : Hexing). l.failures) r.2.1.rest ∙ same_failures old r.0 old.kept refl r.1 ∙ none_more old.failures
receives_counted old new Ended r = ap (λ (l : Hexing). l.failures) r.2 ∙ none_more old.failures
receives_counted old new Broke r = ap (λ (l : Hexing). l.failures) r.1.2

pub sends_counted : (old new : Hexing) (bytes : List ℕ) (s : Sent) → Sends old bytes s new → new.failures ≡ counted old.failures (missed s)
sends_counted old new bytes sent.Taken s = ap (λ (l : Hexing). l.failures) s.1 ∙ none_more old.failures
sends_counted old new bytes sent.Untaken s = absurd s
sends_counted old new bytes sent.Broken s = ap (λ (l : Hexing). l.failures) s.1.2
