-- What a link over a stream read and wrote during a run of events.
use Rattle.std.proofs.Common.{ℕ, ◌≡◌, ◌⊎◌, inl, inr, Bool, List, [], ◌∷◌, ◌++◌, take, Option, Some, None, refl, sym, subst, ap, ◌∙◌, append_assoc, append-nil}
use Rattle.std.specs.Io.KnownBytes.{Appends, Consumes, Keeps}
use Rattle.wire.specs.Written.{reply_bytes}
use Rattle.engine.specs.Chain.{Chain}
use Rattle.engine.specs.Links.{Event, Happens, Heard, In, Out, Piece, Ended, Broke}
use Rattle.engine.specs.Reference.{Offer, ending, sent_in}
use Rattle.engine.specs.Serving.{Step, Hears, Works, Paces, sent_of, bytes_of, events_of, heard_of}
use Rattle.engine.specs.declared.links.Sent.{Sent}
use Rattle.engine.specs.declared.links.Sent.TheVariants as sent
use Rattle.engine_streams.specs.Passing.{broken_in, taken_in}
use Rattle.engine_streams.specs.Streams.{Streaming, Receives, Sends}

-- ---- reading

consumes_none : (known : Option (List ℕ)) → Consumes known known []
consumes_none None = tt
consumes_none (Some xs) = refl

kept_consumes : (old new : Option (List ℕ)) → Keeps old new → Consumes old new []
kept_consumes None new kept = tt
kept_consumes (Some xs) None kept = kept
kept_consumes (Some xs) (Some ys) kept = sym kept

consumes_on : (a b c : Option (List ℕ)) (xs ys : List ℕ) → Consumes a b xs → Consumes b c ys → Consumes a c (xs ++ ys)
consumes_on None b c xs ys p q = tt
consumes_on (Some a) None c xs ys p q = absurd p
consumes_on (Some a) (Some b) None xs ys p q = absurd q
consumes_on (Some a) (Some b) (Some c) xs ys p q = p ∙ (ap (λ zs. xs ++ zs) q ∙ sym (append_assoc xs ys c))

-- the bytes that were received
abbrev bytes_in : List Event → List ℕ
bytes_in [] = []
bytes_in (In heard ∷ events) = bytes_of heard ++ bytes_in events
bytes_in (Out frame s ∷ events) = bytes_in events

received : (old new : Streaming) (heard : Heard) → Receives old heard new → Consumes old.input new.input (bytes_of heard)
received old new (Piece bytes) r = r.0
received old new Ended r = r.0
received old new Broke r = kept_consumes old.input new.input r.0

input_stays : (old new : Streaming) (frame : List ℕ) (s : Sent) → Sends old frame s new → new.input ≡ old.input
input_stays old new frame sent.Taken s = ap (λ (l : Streaming). l.input) s.1
input_stays old new frame sent.Untaken s = absurd s
input_stays old new frame sent.Broken s = ap (λ (l : Streaming). l.input) s.1

consumed : (old new : Streaming) (events : List Event) → Chain (Happens Receives Sends) old events new → Consumes old.input new.input (bytes_in events)
consumed old new [] chain = subst (λ (i : Option (List ℕ)). Consumes old.input i []) (sym (ap (λ (l : Streaming). l.input) chain)) (consumes_none old.input)
consumed old new (In heard ∷ events) chain =
    consumes_on old.input chain.0.input new.input (bytes_of heard) (bytes_in events) (received old chain.0 heard chain.1) (consumed chain.0 new events chain.2)
consumed old new (Out frame s ∷ events) chain =
    subst (λ (i : Option (List ℕ)). Consumes i new.input (bytes_in events)) (input_stays old chain.0 frame s chain.1) (consumed chain.0 new events chain.2)

offered : (offer : Option Offer) (events : List Event) → bytes_in (sent_of offer ++ events) ≡ bytes_in events
offered None events = refl
offered (Some offer) events = refl

heard_in : (steps : List Step) → bytes_in (events_of steps) ≡ heard_of steps
heard_in [] = refl
heard_in (Hears heard ∷ steps) = ap (λ bytes. bytes_of heard ++ bytes) (heard_in steps)
heard_in (Works turn ∷ steps) = offered turn.offer (events_of steps) ∙ heard_in steps

-- The received bytes are the first ones that the reader had.
pub heard_first : (old new : Streaming) (steps : List Step) → Chain (Happens Receives Sends) old (events_of steps) new → Consumes old.input new.input (heard_of steps)
heard_first old new steps chain = subst (λ (bytes : List ℕ). Consumes old.input new.input bytes) (heard_in steps) (consumed old new (events_of steps) chain)

-- ---- writing

appends_none : (known : Option (List ℕ)) → Appends known known []
appends_none None = tt
appends_none (Some xs) = sym (append-nil xs)

appends_on : (a b c : Option (List ℕ)) (xs ys : List ℕ) → Appends a b xs → Appends b c ys → Appends a c (xs ++ ys)
appends_on None b c xs ys p q = tt
appends_on (Some a) None c xs ys p q = absurd p
appends_on (Some a) (Some b) None xs ys p q = absurd q
appends_on (Some a) (Some b) (Some c) xs ys p q = q ∙ ap (λ zs. zs ++ ys) p ∙ append_assoc a xs ys

output_stays : (old new : Streaming) (heard : Heard) → Receives old heard new → Keeps old.output new.output
output_stays old new (Piece bytes) r = r.1
output_stays old new Ended r = r.2
output_stays old new Broke r = r.1

-- what was kept, followed by some bytes
kept_then : (a b c : Option (List ℕ)) (xs : List ℕ) → Keeps a b → Appends b c xs → Appends a c xs
kept_then None b c xs kept more = tt
kept_then (Some a) None c xs kept more = absurd kept
kept_then (Some a) (Some b) None xs kept more = absurd more
kept_then (Some a) (Some b) (Some c) xs kept more = more ∙ ap (λ zs. zs ++ xs) kept

-- there is no traffic after a reply that broke the link
abbrev pub BreaksLast : List Event → Type 0
BreaksLast [] = Unit {0}
BreaksLast (In heard ∷ events) = BreaksLast events
BreaksLast (Out frame sent.Taken ∷ events) = BreaksLast events
BreaksLast (Out frame sent.Untaken ∷ events) = BreaksLast events
BreaksLast (Out frame sent.Broken ∷ events) = events ≡ []

-- a turn that broke the link is the last
last_sent : (bytes : List ℕ) (s : Sent) (destroyed : Bool) (steps : List Step) → (ending (Some s) destroyed ≡ None) ⊎ (steps ≡ []) → BreaksLast (events_of steps)
    → BreaksLast (Out bytes s ∷ events_of steps)
last_sent bytes sent.Taken destroyed steps ends more = more
last_sent bytes sent.Untaken destroyed steps ends more = more
last_sent bytes sent.Broken destroyed steps (inl on) more = cc
last_sent bytes sent.Broken destroyed steps (inr none) more = ap events_of none

last_turn : (offer : Option Offer) (destroyed : Bool) (steps : List Step) → (ending (sent_in offer) destroyed ≡ None) ⊎ (steps ≡ []) → BreaksLast (events_of steps)
    → BreaksLast (sent_of offer ++ events_of steps)
last_turn None destroyed steps ends more = more
last_turn (Some offer) destroyed steps ends more = last_sent (reply_bytes offer.reply) offer.sent destroyed steps ends more

pub breaks_last : (kept : List ℕ) (steps : List Step) (rest : List ℕ) → Paces kept steps rest → BreaksLast (events_of steps)
breaks_last kept [] rest paces = tt
breaks_last kept (Hears heard ∷ steps) rest paces = breaks_last (kept ++ bytes_of heard) steps rest paces.2
breaks_last kept (Works turn ∷ steps) rest paces = last_turn turn.offer turn.destroyed steps paces.3 (breaks_last paces.0 steps rest paces.4)

-- The writer was given the replies that were taken, and some first part of one that broke the link.
abbrev pub WritesSome : Streaming → List Event → Streaming → Type 0
WritesSome old events new = (n : ℕ) × Appends old.output new.output (taken_in events ++ take n (broken_in events))

-- one more reply before the others
taken_first : (old mid new : Option (List ℕ)) (frame : List ℕ) (events : List Event) (n : ℕ) → Appends old mid frame → Appends mid new (taken_in events ++ take n (broken_in events))
    → Appends old new ((frame ++ taken_in events) ++ take n (broken_in events))
taken_first old mid new frame events n first rest =
    subst (λ (xs : List ℕ). Appends old new xs) (sym (append_assoc frame (taken_in events) (take n (broken_in events)))) (appends_on old mid new frame (taken_in events ++ take n (broken_in events)) first rest)

pub written : (old new : Streaming) (events : List Event) → Chain (Happens Receives Sends) old events new → BreaksLast events → WritesSome old events new
written old new [] chain last = (0, subst (λ (o : Option (List ℕ)). Appends old.output o []) (sym (ap (λ (l : Streaming). l.output) chain)) (appends_none old.output))
written old new (In heard ∷ events) chain last =
    let rest = written chain.0 new events chain.2 last in
    (rest.0, kept_then old.output chain.0.output new.output (taken_in events ++ take rest.0 (broken_in events)) (output_stays old chain.0 heard chain.1) rest.1)
written old new (Out frame sent.Taken ∷ events) chain last =
    let rest = written chain.0 new events chain.2 last in
    (rest.0, taken_first old.output chain.0.output new.output frame events rest.0 chain.1.0 rest.1)
written old new (Out frame sent.Untaken ∷ events) chain last = absurd chain.1
written old new (Out frame sent.Broken ∷ events) chain last =
    let over : new ≡ chain.0 = subst (λ (more : List Event). Chain (Happens Receives Sends) chain.0 more new) last chain.2 in
    let none : taken_in events ≡ [] = ap taken_in last in
    let n = chain.1.0.0 in
    (n, subst (λ (l : Streaming). Appends old.output l.output (taken_in events ++ take n frame)) (sym over) (subst (λ (xs : List ℕ). Appends old.output chain.0.output (xs ++ take n frame)) (sym none) chain.1.0.1))
