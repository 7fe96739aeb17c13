-- What a link of hexadecimal lines wrote during a run of events.
use Rattle.std.proofs.Common.{ℕ, ◌≡◌, Bool, List, [], ◌∷◌, ◌++◌, take, Option, refl, sym, subst, ap, ◌∙◌, append_assoc, arith, inl, inr}
use Rattle.std.proofs.KnownBytes.{Appends-nil, Appends-trans}
use Rattle.std.specs.Io.KnownBytes.{Appends}
use Rattle.backing.specs.Calls.{memory_limit}
use Rattle.backing.specs.Memory.{Memory as MemTree, Gives, memory_tree}
use Rattle.engine.specs.Chain.{Chain}
use Rattle.engine.specs.Links.{Event, Happens, Heard, In, Out, Piece, Ended, Broke}
use Rattle.engine.specs.Serving.{events_of, traffic}
use Rattle.engine.specs.declared.ends.SessionEnd.{SessionEnd}
use Rattle.engine.specs.declared.links.Sent.TheVariants as sent
use Rattle.mirrord_sessions.specs.Lines.{Hexing, HasPiece, Receives, Sends, broken_line, line, lines_in}
use Rattle.engine_streams.proofs.Passed.{BreaksLast, breaks_last}
use Rattle.mirrord_sessions.specs.Known.{known_calls, ServesKnown}
use Rattle.mirrord_sessions.specs.Runs.{ServesHex, failed_in, unowned}
use Rattle.mirrord_sessions.specs.declared.runs.TreeServed.{TreeServed}
use Rattle.mirrord_sessions.specs.Samples.{IsStart}

same_output : (old mid : Hexing) (kept : List ℕ) → old.kept ≡ kept → HasPiece old mid → mid.output ≡ old.output
same_output old mid [] none has = ap (λ (l : Hexing). l.output) (has.line none).others
same_output old mid (x ∷ xs) some has = ap (λ (l : Hexing). l.output) (has.kept (rw some (omega arith)))

heard_output : (old new : Hexing) (heard : Heard) → Receives old heard new → new.output ≡ old.output
heard_output old new (Piece bytes) r = ap (λ (l : Hexing). l.output) r.2.1.rest ∙ same_output old r.0 old.kept refl r.1
heard_output old new Ended r = ap (λ (l : Hexing). l.output) r.2
heard_output old new Broke r = ap (λ (l : Hexing). l.output) r.1.2

-- one more reply before the others
taken_first : (old mid new : Option (List ℕ)) (frame : List ℕ) (events : List Event) (n : ℕ) → Appends old mid (line frame) → Appends mid new (lines_in events ++ take n (broken_line events))
    → Appends old new ((line frame ++ lines_in events) ++ take n (broken_line events))
taken_first old mid new frame events n first rest =
    subst (λ (xs : List ℕ). Appends old new xs) (sym (append_assoc (line frame) (lines_in events) (take n (broken_line events)))) (Appends-trans old mid new (line frame) (lines_in events ++ take n (broken_line events)) first rest)

-- The writer was given the replies that were taken, and some first part of one that broke the link.
abbrev pub WritesSome : Hexing → List Event → Hexing → Type 0
WritesSome old events new = (n : ℕ) × Appends old.output new.output (lines_in events ++ take n (broken_line events))

pub written : (old new : Hexing) (events : List Event) → Chain (Happens Receives Sends) old events new → BreaksLast events → WritesSome old events new
written old new [] chain last = (0, subst (λ (o : Option (List ℕ)). Appends old.output o []) (sym (ap (λ (l : Hexing). l.output) chain)) (Appends-nil old.output))
written old new (In heard ∷ events) chain last =
    subst (λ (o : Option (List ℕ)). (n : ℕ) × Appends o new.output (lines_in events ++ take n (broken_line events))) (heard_output old chain.0 heard chain.1) (written chain.0 new events chain.2 last)
written old new (Out frame sent.Taken ∷ events) chain last =
    let rest = written chain.0 new events chain.2 last in
    (rest.0, taken_first old.output chain.0.output new.output frame events rest.0 chain.1.0 rest.1)
written old new (Out frame sent.Untaken ∷ events) chain last = absurd chain.1
written old new (Out frame sent.Broken ∷ events) chain last =
    let over : new ≡ chain.0 = subst (λ (more : List Event). Chain (Happens Receives Sends) chain.0 more new) last chain.2 in
    let none : lines_in events ≡ [] = ap lines_in last in
    let n = chain.1.0.0 in
    (n, subst (λ (l : Hexing). Appends old.output l.output (lines_in events ++ take n (line frame))) (sym over) (subst (λ (xs : List ℕ). Appends old.output chain.0.output (xs ++ take n (line frame))) (sym none) chain.1.0.1))

-- a link that was served from a new tree
pub hex_served : (by : TreeServed) (tree left : MemTree) (old : Hexing) (over : SessionEnd) (new : Hexing) → IsStart by.sample tree → ServesKnown (unowned by.kinds by.postings) (traffic Receives Sends) (known_calls Gives memory_limit memory_tree failed_in) tree left old over new → ServesHex by old over new
hex_served by tree left old over new start (inl known) =
    let client = known.served.run.client in
    let wrote = written old new (events_of client.steps) client.passes (breaks_last [] client.steps client.kept client.paces) in
    inl (record { tree = tree; start = start; left = left; known = known; part = wrote.0; written = wrote.1 })
hex_served by tree left old over new start (inr none) = inr (none.0, none.1)
