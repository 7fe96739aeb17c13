-- What the code of a session has done from the first byte to the end is a whole session.
use Rattle.std.proofs.lemmas.Option.{none-some, same_Some}
use Rattle.std.proofs.Common.{◌≡◌, ◌≢◌, Bool, true, false, if◌then◌else◌, ℕ, ◌≤◌, ◌-◌, suc, zero, List, [], ◌∷◌, ◌++◌, length, take, drop, refl, sym, subst, ap, ◌∙◌, append_assoc, append-nil, arith, inl, inr, ◌⊎◌, Option, Some, None}
use Rattle.std.specs.Prelude.{option_to_list}
use Rattle.std.specs.List.{AllByRecursion}
use Rattle.std.proofs.lemmas.Bool.{cases_lt}
use Rattle.std.proofs.lemmas.List.{length-drop}
use Rattle.wire.specs.declared.request.TheConstants.{HEADER_LEN, MAX_FRAME_LEN}
use Rattle.wire.specs.Requests.{IsFramed}
use Rattle.wire.specs.NextFrame.{IsWhole}
use Rattle.wire.specs.Stream.{BeginsBadly, Cutting, IsPartial, Splits, joined, len_in}
use Rattle.wire.proofs.Cutting.{handed, partial_ends, bad_ends}
use Rattle.engine.specs.declared.ends.SessionEnd.{SessionEnd}
use Rattle.engine.specs.declared.ends.SessionEnd.TheVariants as ends
use Rattle.engine.specs.declared.links.Sent.{Sent}
use Rattle.engine.specs.declared.served.Served.{Served}
use Rattle.terms.specs.declared.settings.Settings.{Settings}
use Rattle.engine.specs.Chain.{Chain}
use Rattle.engine.specs.Hearing.{IsHeard}
use Rattle.engine.specs.Links.{Heard, Piece, Ended, Broke, Event, Happens}
use Rattle.engine.specs.Reference.{At, Offer, Stop, AtEnd, Lost, IsTurn, Turn, frames_of, sent_in, starting, was_broken, Closes}
use Rattle.engine.specs.Serving.{Behaviour, Draws, Environment, Step, Hears, Traffic, Works, GoesOn, IsClientRun, LacksMemory, Paces, bytes_of, events_of, folders_of, heard_of, made_of, sent_of, stop_in, stops_of, turns_of, around}
use Rattle.engine.specs.Tables.{Table}
use Rattle.engine.specs.Walks.{Side, Stand, reaching, side, stand, WorksOffFrames, IsStep, Passes, Stops, Walks}
use Rattle.engine.proofs.Runs.{draws_on}
use Rattle.engine.proofs.Walking.{walks_on}

-- ---- any bytes split into frames and a rest

stands : (bytes : List ℕ) → IsPartial bytes ⊎ ((len : ℕ) × BeginsBadly bytes len) ⊎ ((len : ℕ) × IsWhole bytes len)
stands bytes =
    elim (cases_lt (length bytes) 4) [
      | inl short ↦ inl (inl short)
      | inr there ↦ elim (cases_lt (len_in bytes) HEADER_LEN) [
        | inl low ↦ inr (inl (len_in bytes, record { there = there; is = refl; lawless = inl low }))
        | inr long ↦ elim (cases_lt MAX_FRAME_LEN (len_in bytes)) [
          | inl high ↦ inr (inl (len_in bytes, record { there = there; is = refl; lawless = inr high }))
          | inr small ↦ elim (cases_lt (length bytes) (len_in bytes)) [
            | inl handle_destroy ↦ inl (inr (record { long = long; short = small }, handle_destroy))
            | inr whole ↦ inr (inr (len_in bytes, record { is = refl; lawful = record { long = long; short = small }; there = whole }))
          ]
        ]
      ]
    ]

record Rest (bytes : List ℕ) : Type 0 where
  pub frames : List (List ℕ)
  pub rest : List ℕ
  pub splits : Splits bytes frames rest

no_frame : (bytes : List ℕ) → ((frame more : List ℕ) → IsFramed frame → bytes ≡ frame ++ more → ⊥) → Splits bytes [] bytes
no_frame bytes none = record { whole = refl; each = tt; ends = none }

none : (bytes : List ℕ) → ((frame more : List ℕ) → IsFramed frame → bytes ≡ frame ++ more → ⊥) → Rest bytes
none bytes nothing = record { frames = []; rest = bytes; splits = no_frame bytes nothing }

one_more : (bytes frame more : List ℕ) → bytes ≡ frame ++ more → IsFramed frame → Rest more → Rest bytes
one_more bytes frame more e framed r = record {
  frames = frame ∷ r.frames;
  rest = r.rest;
  splits = record {
    whole = e ∙ ap (λ xs. frame ++ xs) r.splits.whole ∙ sym (append_assoc frame (joined r.frames) r.rest);
    each = (framed, r.splits.each);
    ends = r.splits.ends;
  };
}

shorter : (n h len : ℕ) → n ≤ suc h → 40 ≤ len → len ≤ n → n - len ≤ h
shorter n h len a b c = omega arith

splits_by : (fuel : ℕ) (bytes : List ℕ) → length bytes ≤ fuel → Rest bytes
splits_by zero bytes small = none bytes (partial_ends bytes (inl (omega arith)))
splits_by (suc fuel) bytes small =
    elim (stands bytes) [
      | inl handle_destroy ↦ none bytes (partial_ends bytes handle_destroy)
      | inr other ↦ elim other [
        | inl bad ↦ none bytes (bad_ends bytes bad.0 bad.1)
        | inr whole ↦
            let front = handed bytes (take whole.0 bytes) whole.0 whole.1 refl in
            let less : length (drop whole.0 bytes) ≤ fuel = subst (λ n. n ≤ fuel) (sym (length-drop whole.0 bytes)) (shorter (length bytes) fuel whole.0 small whole.1.lawful.long whole.1.there) in
            one_more bytes (take whole.0 bytes) (drop whole.0 bytes) front.0 front.1 (splits_by fuel (drop whole.0 bytes) less)
      ]
    ]

splits_all : (bytes : List ℕ) → Rest bytes
splits_all bytes = splits_by (length bytes) bytes (omega arith)

joined_append : (fs gs : List (List ℕ)) → joined (fs ++ gs) ≡ joined fs ++ joined gs
joined_append [] gs = refl
joined_append (f ∷ fs) gs = ap (λ xs. f ++ xs) (joined_append fs gs) ∙ sym (append_assoc f (joined fs) (joined gs))

each_append : (fs gs : List (List ℕ)) → AllByRecursion IsFramed fs → AllByRecursion IsFramed gs → AllByRecursion IsFramed (fs ++ gs)
each_append [] gs a b = b
each_append (f ∷ fs) gs a b = (a.0, each_append fs gs a.1 b)

-- ---- the end of a session that a frame did not end for lack of memory

lacks_none : (end : SessionEnd) (steps : List Step) → end ≢ ends.Memory → LacksMemory end steps
lacks_none (ends.Closed len) steps other = tt
lacks_none ends.Destroyed steps other = tt
lacks_none (ends.BadLength len) steps other = tt
lacks_none ends.LinkBroken steps other = tt
lacks_none ends.Memory steps other = absurd (other refl)
lacks_none ends.NoWorkers steps other = tt

ends_otherwise : (broken destroyed : Bool) → (if broken then Some ends.LinkBroken else (if destroyed then Some ends.Destroyed else None)) ≢ Some ends.Memory
ends_otherwise true destroyed e = cc
ends_otherwise false true e = cc
ends_otherwise false false e = none-some ends.Memory e

-- ---- steps, separated

passes_on : {L : Type 0} (receives : L → Heard → L → Type 0) (sends : L → List ℕ → Sent → L → Type 0) (a b c : L) (offer : Option Offer) (es : List Event) → Passes sends a offer b → Chain (Happens receives sends) b es c → Chain (Happens receives sends) a (sent_of offer ++ es) c
passes_on {L = L} receives sends a b c None es p chain = subst (λ (l : L). Chain (Happens receives sends) l es c) p chain
passes_on receives sends a b c (Some offer) es p chain = (b, p, chain)

goes_last : (heard : Heard) → GoesOn heard []
goes_last (Piece bytes) = tt
goes_last Ended = refl
goes_last Broke = refl

module _ {W L C D : Type 0} (table : Table W) (settings : Settings) (over : Traffic L) (does : Behaviour C D) where
  -- what steps say about the link, the directory, the table and the bytes
  record Tells (old : Side W L C D) (steps : List Step) (new : Environment (At W) L C D) (kept : List ℕ) (stops : List Stop) : Type 0 where
    pub passes : Chain (Happens over.receives over.sends) old.link (events_of steps) new.link
    pub draws : Draws does old.served (made_of (turns_of steps)) (folders_of (turns_of steps)) new.served
    pub run : Chain (IsTurn table settings) old.at (turns_of steps) new.at
    pub bytes : old.kept ++ heard_of steps ≡ joined (frames_of (turns_of steps)) ++ kept
    pub each : AllByRecursion IsFramed (frames_of (turns_of steps))
    pub stops_are : stops_of steps ≡ stops
    pub paces : Paces old.kept steps kept
    pub goes : (old.at.end ≡ None) ⊎ (steps ≡ [])

  tells_none : (s : Side W L C D) → Tells s [] (around s.link s.served s.at) s.kept []
  tells_none s = record { passes = refl; draws = record { makes = refl; keeps = refl }; run = refl; bytes = append-nil s.kept; each = tt; stops_are = refl; paces = refl; goes = inr refl }

  tells_heard : (s : Side W L C D) (heard : Heard) (link : L) (kept : List ℕ) → s.at.end ≡ None → IsPartial s.kept → over.receives s.link heard link → kept ≡ s.kept ++ bytes_of heard → Tells s (Hears heard ∷ []) (around link s.served s.at) kept (stop_in heard ++ [])
  tells_heard s heard link kept goes partial r is = record {
    passes = (link, r, refl);
    draws = record { makes = refl; keeps = refl };
    run = refl;
    bytes = ap (λ xs. s.kept ++ xs) (append-nil (bytes_of heard)) ∙ sym is;
    each = tt;
    stops_are = refl;
    paces = (partial, goes_last heard, is);
    goes = inl goes;
  }

  tells_on : (steps last : List Step) (old mid : Side W L C D) (end : Environment (At W) L C D) (kept : List ℕ) (stops : List Stop) → Chain (IsStep table settings over does) old steps mid → Tells mid last end kept stops → Tells old (steps ++ last) end kept stops
  tells_on [] last old mid end kept stops e t = subst (λ (s : Side W L C D). Tells s last end kept stops) e t
  tells_on (Hears (Piece bytes) ∷ steps) last old new end kept stops chain t =
      let h = chain.1 in
      let mid = chain.0 in
      let more = tells_on steps last mid new end kept stops chain.2 t in
      let kept_is : mid.kept ≡ old.kept ++ bytes = ap (λ (s : Side W L C D). s.kept) h.rest in
      record {
        passes = (mid.link, h.brought, more.passes);
        draws = subst (λ (c : Served C D). Draws does c (made_of (turns_of (steps ++ last))) (folders_of (turns_of (steps ++ last))) end.served) (ap (λ (s : Side W L C D). s.served) h.rest) more.draws;
        run = subst (λ (a : At W). Chain (IsTurn table settings) a (turns_of (steps ++ last)) end.at) (ap (λ (s : Side W L C D). s.at) h.rest) more.run;
        bytes = sym (append_assoc old.kept bytes (heard_of (steps ++ last))) ∙ ap (λ xs. xs ++ heard_of (steps ++ last)) (sym kept_is) ∙ more.bytes;
        each = more.each;
        stops_are = more.stops_are;
        paces = (h.partial, tt, subst (λ (k : List ℕ). Paces k (steps ++ last) kept) kept_is more.paces);
        goes = inl h.goes;
      }
  tells_on (Hears Ended ∷ steps) last old new end kept stops chain t = absurd chain.1
  tells_on (Hears Broke ∷ steps) last old new end kept stops chain t = absurd chain.1
  tells_on (Works turn ∷ steps) last old new end kept stops chain t =
      let w = chain.1 in
      let mid = chain.0 in
      let more = tells_on steps last mid new end kept stops chain.2 t in
      let frames = frames_of (turns_of (steps ++ last)) in
      record {
        passes = passes_on over.receives over.sends old.link mid.link end.link turn.offer (events_of (steps ++ last)) w.passes more.passes;
        draws = draws_on does old.served mid.served end.served turn.made (made_of (turns_of (steps ++ last))) turn.folders (folders_of (turns_of (steps ++ last))) w.draws more.draws;
        run = (mid.at, w.is_turn, more.run);
        bytes = ap (λ xs. xs ++ heard_of (steps ++ last)) w.front ∙ append_assoc turn.frame mid.kept (heard_of (steps ++ last)) ∙ ap (λ xs. turn.frame ++ xs) more.bytes ∙ sym (append_assoc turn.frame (joined frames) kept);
        each = (w.framed, more.each);
        stops_are = more.stops_are;
        paces = (mid.kept, w.front, w.framed, elim more.goes [ inl going ↦ inl (sym w.is_turn.end ∙ going) | inr over ↦ inr over ], more.paces);
        goes = inl w.is_turn.goes;
      }

  -- ---- a whole session

  -- no frame ends a session for lack of memory
  never_short : (turns : List Turn) (old new : At W) → old.end ≢ Some ends.Memory → Chain (IsTurn table settings) old turns new → new.end ≢ Some ends.Memory
  never_short [] old new other chain = λ e. other (sym (ap (λ (a : At W). a.end) chain) ∙ e)
  never_short (turn ∷ turns) old new other chain = never_short turns chain.0 new (λ e. ends_otherwise (was_broken (sent_in turn.offer)) turn.destroyed (sym chain.1.end ∙ e)) chain.2

  closing : (start s : Side W L C D) (last : List Step) (new : Environment (At W) L C D) (kept : List ℕ) (stop : Option Stop) (dropped : List (List ℕ)) (rest : List ℕ) (end : SessionEnd) (world : W)
      → start.at ≡ starting world → start.kept ≡ [] → table.is_idle world
      → (walks : Walks table settings over does start s) → Tells s last new kept (option_to_list stop)
      → Splits kept dropped rest → Closes new.at.end end stop dropped rest → LacksMemory end (walks.steps ++ last)
      → IsClientRun table settings over does (around start.link start.served world) (around new.link new.served new.at.world) end
  closing start s last new kept stop dropped rest end world begins empty fresh walks t splits closes lacks =
      let all = tells_on walks.steps last start s new kept (option_to_list stop) walks.chain t in
      let steps = walks.steps ++ last in
      let frames = frames_of (turns_of steps) in
      let heard : heard_of steps ≡ joined frames ++ kept = ap (λ xs. xs ++ heard_of steps) (sym empty) ∙ all.bytes in
      record {
        steps = steps;
        passes = all.passes;
        draws = all.draws;
        kept = kept;
        paces = subst (λ (k : List ℕ). Paces k steps kept) empty all.paces;
        stop = stop;
        stopped = all.stops_are;
        session = record {
          fresh = fresh;
          dropped = dropped;
          rest = rest;
          frames = record {
            whole = heard ∙ ap (λ xs. joined frames ++ xs) splits.whole ∙ sym (append_assoc (joined frames) (joined dropped) rest) ∙ ap (λ xs. xs ++ rest) (sym (joined_append frames dropped));
            each = each_append frames dropped all.each splits.each;
            ends = splits.ends;
          };
          reached = new.at;
          run = subst (λ (a : At W). Chain (IsTurn table settings) a (turns_of steps) new.at) begins all.run;
          last_is = refl;
          closes = closes;
        };
        memory = lacks;
      }

  -- the table is new, and no version is agreed on
  abbrev pub beginning : Environment W L C D → Side W L C D
  beginning old = side (around old.link old.served (stand old.at false)) []

  -- ---- the ends of a session

  module _ (old : Environment W L C D) (mid : Environment (Stand W) L C D) (kept : List ℕ) (fresh : table.is_idle old.at) (partial : IsPartial kept) (walks : Walks table settings over does (beginning old) (side mid kept)) where
    -- receiving ends the session
    by_heard : (heard : Heard) (link : L) (now : List ℕ) (stop : Option Stop) (dropped : List (List ℕ)) (rest : List ℕ) (end : SessionEnd) → over.receives mid.link heard link → now ≡ kept ++ bytes_of heard → stop_in heard ++ [] ≡ option_to_list stop → Splits now dropped rest → Closes None end stop dropped rest → LacksMemory end (walks.steps ++ Hears heard ∷ [])
        → IsClientRun table settings over does old (around link mid.served mid.at.world) end
    by_heard heard link now stop dropped rest end r is stops splits closes lacks =
        let new = around link mid.served (side mid kept).at in
        closing (beginning old) (side mid kept) (Hears heard ∷ []) new now stop dropped rest end old.at refl refl fresh walks
        (subst (λ (ss : List Stop). Tells (side mid kept) (Hears heard ∷ []) new now ss) stops (tells_heard (side mid kept) heard link now refl partial r is))
        splits closes lacks

    at_end : (link : L) (rest : ℕ) → over.receives mid.link Ended link → rest ≡ length kept → IsClientRun table settings over does old (around link mid.served mid.at.world) (ends.Closed rest)
    at_end link rest r is = by_heard Ended link kept (Some AtEnd) [] kept (ends.Closed rest) r (sym (append-nil kept)) refl (no_frame kept (partial_ends kept partial)) (refl, refl, partial, is) tt

    at_break : (link : L) → over.receives mid.link Broke link → IsClientRun table settings over does old (around link mid.served mid.at.world) ends.LinkBroken
    at_break link r = by_heard Broke link kept (Some Lost) [] kept ends.LinkBroken r (sym (append-nil kept)) refl (no_frame kept (partial_ends kept partial)) (refl, refl, partial) tt

    unfed : (link : L) (piece : List ℕ) → over.receives mid.link (Piece piece) link → IsClientRun table settings over does old (around link mid.served mid.at.world) ends.Memory
    unfed link piece r =
        let all = splits_all (kept ++ piece) in
        by_heard (Piece piece) link (kept ++ piece) None all.frames all.rest ends.Memory r refl refl all.splits refl (walks.steps, piece, refl)

    -- a receive ends the session
    pub heard_end : (link : L) (cutter cutter' : Cutting) (end : SessionEnd) → cutter.kept ≡ kept → IsHeard over.receives mid.link cutter (Some end) link cutter' → IsClientRun table settings over does old (around link mid.served mid.at.world) end
    heard_end link cutter cutter' (ends.Closed rest) same h = at_end link rest h.0 (h.1 ∙ ap length same)
    heard_end link cutter cutter' ends.Destroyed same h = absurd h
    heard_end link cutter cutter' (ends.BadLength len) same h = absurd h
    heard_end link cutter cutter' ends.LinkBroken same h = at_break link h
    heard_end link cutter cutter' ends.Memory same h = unfed link h.0 h.1
    heard_end link cutter cutter' ends.NoWorkers same h = absurd h

  -- the session ended by a frame or a bad length
  by_stop : (old : Environment W L C D) (new : Environment (Stand W) L C D) (kept : List ℕ) (reached : Option SessionEnd) (end : SessionEnd) → table.is_idle old.at → Walks table settings over does (beginning old) (reaching (side new kept) reached) → Stops reached (Some end) kept
      → IsClientRun table settings over does old (around new.link new.served new.at.world) end
  by_stop old new kept (Some reached) end fresh walks stops =
      let all = splits_all kept in
      let last = reaching (side new kept) (Some reached) in
      let told = tells_on walks.steps [] (beginning old) last (around new.link new.served last.at) kept [] walks.chain (tells_none last) in
      let other = never_short (turns_of (walks.steps ++ [])) (beginning old).at last.at (none-some ends.Memory) told.run in
      closing (beginning old) last [] (around new.link new.served last.at) kept None all.frames all.rest end old.at refl refl fresh walks
      (tells_none last) all.splits (same_Some end reached stops, refl)
      (lacks_none end (walks.steps ++ []) (λ e. other (ap Some (sym (same_Some end reached stops) ∙ e))))
  by_stop old new kept None (ends.Closed len) fresh walks stops = absurd stops
  by_stop old new kept None ends.Destroyed fresh walks stops = absurd stops
  by_stop old new kept None (ends.BadLength len) fresh walks stops =
      closing (beginning old) (side new kept) [] (around new.link new.served (side new kept).at) kept None [] kept (ends.BadLength len) old.at refl refl fresh walks
      (tells_none (side new kept)) (no_frame kept (bad_ends kept len stops)) (refl, refl, stops) tt
  by_stop old new kept None ends.LinkBroken fresh walks stops = absurd stops
  by_stop old new kept None ends.Memory fresh walks stops = absurd stops
  by_stop old new kept None ends.NoWorkers fresh walks stops = absurd stops

  pub drained_end : (old : Environment W L C D) (mid new : Environment (Stand W) L C D) (fed kept : List ℕ) (result : Option SessionEnd) (end : SessionEnd) (now : Settings) → now ≡ settings → table.is_idle old.at → Walks table settings over does (beginning old) (side mid fed) → result ≡ Some end
      → WorksOffFrames table now over does (side mid fed) (side new kept) result
      → IsClientRun table settings over does old (around new.link new.served new.at.world) end
  drained_end old mid new fed kept result end now set fresh walks is given =
      let d = subst (λ (t : Settings). WorksOffFrames table t over does (side mid fed) (side new kept) result) set given in
      by_stop old new kept d.reached end fresh
      (walks_on table settings over does (beginning old) (side mid fed) (reaching (side new kept) d.reached) walks d.walks)
      (subst (λ (e : Option SessionEnd). Stops d.reached e kept) is d.stops)

  still : (start : Side W L C D) (new : Environment (Stand W) L C D) (kept : List ℕ) (reached : Option SessionEnd) → Walks table settings over does start (reaching (side new kept) reached) → Stops reached None kept → Walks table settings over does start (side new kept) × IsPartial kept
  still start new kept (Some reached) walks stops = absurd (none-some reached stops)
  still start new kept None walks stops = (walks, stops)

  pub drained_on : (start : Side W L C D) (mid new : Environment (Stand W) L C D) (fed kept : List ℕ) (result : Option SessionEnd) (now : Settings) → now ≡ settings → Walks table settings over does start (side mid fed) → result ≡ None
      → WorksOffFrames table now over does (side mid fed) (side new kept) result
      → Walks table settings over does start (side new kept) × IsPartial kept
  drained_on start mid new fed kept result now set walks is given =
      let d = subst (λ (t : Settings). WorksOffFrames table t over does (side mid fed) (side new kept) result) set given in
      still start new kept d.reached
      (walks_on table settings over does start (side mid fed) (reaching (side new kept) d.reached) walks d.walks)
      (subst (λ (e : Option SessionEnd). Stops d.reached e kept) is d.stops)
