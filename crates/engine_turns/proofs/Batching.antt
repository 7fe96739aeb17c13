-- Taking, offering and settling replies together is the same as doing it one by one.
use Rattle.std.proofs.Common.{◌≡◌, ℕ, suc, ◌+◌, ◌-◌, Bool, true, false, List, [], ◌∷◌, ◌++◌, length, map, get_or, take, drop, ◌<◌, Option, Some, None, refl, sym, ap, ◌∙◌, subst, append-nil, arith}
use Rattle.std.proofs.lemmas.Grind.{flat_map-append}
use Rattle.std.proofs.lemmas.List.{get_or-drop, length-take-le, map-append, take_more}
use Rattle.std.specs.List.{flat_map}
use Rattle.handles.specs.Calls.{FolderCall}
use Rattle.table_steps.specs.Answers.{Settlement}
use Rattle.engine.proofs.Runs.{chain_append, chain_one}
use Rattle.engine.specs.Batches.{bytes_of, SendsEach}
use Rattle.engine.specs.Chain.{Chain}
use Rattle.table_shared.specs.Runs.{Call}
use Rattle.engine.specs.Reference.{is_broken}
use Rattle.engine.specs.declared.bytes.ReplyBytes.{ReplyBytes}
use Rattle.engine.specs.declared.links.Sent.{Sent}
use Rattle.engine.specs.declared.links.Sent.TheVariants.{Taken, Untaken, Broken}
use Rattle.engine_queues.specs.declared.left.Left.{Left}
use Rattle.engine_queues.specs.Replies.{got_of}
use Rattle.engine_queues.specs.declared.replies.QueuedReply.{QueuedReply}
use Rattle.engine_queues.specs.declared.replies.ReplyLane.{ReplyLane}
use Rattle.engine_turns.specs.Batches.{AreEndings, Endings, GetsAll, GetsOne, OffersAll, SettlesAll, SettlesEach, WritesAll, WritesOne, endings, last_of, taken_at}
use Rattle.engine_turns.specs.Turns.{ByBoth, Ending, IsEnded, ending}
use Rattle.engine_turns.proofs.Answering.{and_more}
use Rattle.engine_turns.specs.TableCalls.{OnTable}
use Rattle.engine_turns.specs.declared.replies.JobReply.{JobReply}

-- ---- one more

pub gets_more : (lane mid new : ReplyLane JobReply) (left left' : List (Option Left)) (bytes bytes' : List ReplyBytes) (queued_reply : QueuedReply JobReply) → GetsAll lane left bytes mid → new ≡ got_of mid queued_reply
    → left' ≡ left ++ queued_reply.reply.left ∷ [] → bytes' ≡ bytes ++ queued_reply.reply.bytes ∷ [] → GetsAll lane left' bytes' new
gets_more lane mid new left left' bytes bytes' queued_reply g got l b = record {
  queued_replies = g.queued_replies ++ queued_reply ∷ [];
  chain = chain_append GetsOne lane mid new g.queued_replies (queued_reply ∷ []) g.chain (chain_one GetsOne mid new queued_reply got);
  left_are = l ∙ (ap (λ (ls : List (Option Left)). ls ++ queued_reply.reply.left ∷ []) g.left_are ∙ sym (map-append (λ (m : QueuedReply JobReply). m.reply.left) g.queued_replies (queued_reply ∷ [])));
  bytes_are = b ∙ (ap (λ (bs : List ReplyBytes). bs ++ queued_reply.reply.bytes ∷ []) g.bytes_are ∙ sym (map-append (λ (m : QueuedReply JobReply). m.reply.bytes) g.queued_replies (queued_reply ∷ [])));
}

each_more : (sents : List Sent) (place : ℕ) (lefts : List (Option Left)) (turns : List Ending) (left : Option Left) (turn : Ending) → SettlesEach sents place lefts turns
    → IsEnded left (taken_at sents (place + length lefts)) turn → SettlesEach sents place (lefts ++ left ∷ []) (turns ++ turn ∷ [])
each_more sents place [] [] left turn s more = let n : place + 0 ≡ place = omega arith in (subst (λ (i : ℕ). IsEnded left (taken_at sents i) turn) n more, refl)
each_more sents place [] (other ∷ turns) left turn s more = cc
each_more sents place (first ∷ lefts) [] left turn s more = absurd s
each_more sents place (first ∷ lefts) (other ∷ turns) left turn s more =
    let n : place + suc (length lefts) ≡ suc place + length lefts = omega arith in
    (s.0, each_more sents (suc place) lefts turns left turn s.1 (subst (λ (i : ℕ). IsEnded left (taken_at sents i) turn) n more))

flat_more : {A B : Type 0} (f : A → List B) (xs : List A) (x : A) (all : List B) → all ≡ flat_map f xs → all ++ f x ≡ flat_map f (xs ++ x ∷ [])
flat_more f xs x all is = ap (λ ys. ys ++ f x) is ∙ (ap (λ ys. flat_map f xs ++ ys) (sym (append-nil (f x))) ∙ sym (flat_map-append f xs (x ∷ [])))

pub endings_more : (settled settled' : List (Option Settlement)) (folders : List FolderCall) (calls : List Call) (turns : List Ending) (turn : Ending) → AreEndings (endings settled folders calls) turns → settled' ≡ settled ++ turn.settled ∷ []
    → AreEndings (endings settled' (folders ++ turn.folders) (calls ++ turn.on_table)) (turns ++ turn ∷ [])
endings_more settled settled' folders calls turns turn all told = record {
  settled_are = told ∙ (ap (λ (os : List (Option Settlement)). os ++ turn.settled ∷ []) all.settled_are ∙ sym (map-append (λ (e : Ending). e.settled) turns (turn ∷ [])));
  folders_are = flat_more (λ (e : Ending). e.folders) turns turn folders all.folders_are;
  on_table_are = flat_more (λ (e : Ending). e.on_table) turns turn calls all.on_table_are;
}

settles_more : (lefts lefts' : List (Option Left)) (sents : List Sent) (settled settled' : List (Option Settlement)) (folders : List FolderCall) (calls : List Call) (left : Option Left) (turn : Ending) → SettlesAll lefts sents (endings settled folders calls)
    → lefts' ≡ lefts ++ left ∷ [] → settled' ≡ settled ++ turn.settled ∷ [] → IsEnded left (taken_at sents (length lefts)) turn → SettlesAll lefts' sents (endings settled' (folders ++ turn.folders) (calls ++ turn.on_table))
settles_more lefts lefts' sents settled settled' folders calls left turn s l told is =
    let n : 0 + length lefts ≡ length lefts = omega arith in
    let each = each_more sents 0 lefts s.turns left turn s.each (subst (λ (i : ℕ). IsEnded left (taken_at sents i) turn) (sym n) is) in
    record {
      turns = s.turns ++ turn ∷ [];
      each = subst (λ (ls : List (Option Left)). SettlesEach sents 0 ls (s.turns ++ turn ∷ [])) (sym l) each;
      all_are = endings_more settled settled' folders calls s.turns turn s.all_are told;
    }

-- the next answer was settled
pub settled_next : {D : Type 0} (keeps : D → FolderCall → D → Type 0) (old mid new : D) (before between after : OnTable) (lefts firsts : List (Option Left)) (sents : List Sent) (settled settled' : List (Option Settlement)) (i : ℕ) (left : Option Left) (taken : Bool)
    (one : Option Settlement) → i < length firsts → drop i lefts ≡ drop i firsts → left ≡ get_or lefts i None → taken ≡ taken_at sents i → settled' ≡ settled ++ one ∷ []
    → ByBoth keeps old before mid between (λ (folders : List FolderCall) (calls : List Call). SettlesAll (take i firsts) sents (endings settled folders calls))
    → ByBoth keeps mid between new after (λ (folders : List FolderCall) (calls : List Call). IsEnded left taken (ending one folders calls))
    → ByBoth keeps old before new after (λ (folders : List FolderCall) (calls : List Call). SettlesAll (take (i + 1) firsts) sents (endings settled' folders calls))
settled_next keeps old mid new before between after lefts firsts sents settled settled' i left taken one within same is taken_is told first next =
    let n : i + 0 ≡ i = omega arith in
    let first_is : get_or lefts i None ≡ get_or firsts i None =
    ap (λ (j : ℕ). get_or lefts j None) (sym n) ∙ (sym (get_or-drop i lefts 0 None) ∙ (ap (λ (ls : List (Option Left)). get_or ls 0 None) same ∙ (get_or-drop i firsts 0 None ∙ ap (λ (j : ℕ). get_or firsts j None) n))) in
    let more : take (i + 1) firsts ≡ take i firsts ++ left ∷ [] = take_more firsts i None within ∙ ap (λ (l : Option Left). take i firsts ++ l ∷ []) (sym (is ∙ first_is)) in
    let len : length (take i firsts) ≡ i = length-take-le i firsts (omega arith) in
    let place : taken ≡ taken_at sents (length (take i firsts)) = taken_is ∙ ap (λ (j : ℕ). taken_at sents j) (sym len) in
    let turn : Ending = ending one next.folders next.calls in
    record {
      folders = first.folders ++ next.folders;
      chain = chain_append keeps old mid new first.folders next.folders first.chain next.chain;
      calls = first.calls ++ next.calls;
      on_table = and_more before between after first.calls next.calls first.on_table next.on_table;
      so = settles_more (take i firsts) (take (i + 1) firsts) sents settled settled' first.folders first.calls left turn first.so more told (subst (λ (b : Bool). IsEnded left b turn) place next.so);
    }

-- ---- all together

-- the last that was offered, with one before it that did not break the link
last_on : (first : Sent) (sents : List Sent) → is_broken first ≡ false → is_broken (last_of (first ∷ sents)) ≡ is_broken (last_of sents)
last_on first [] e = let a : 1 - 1 ≡ 0 = omega arith in ap (λ (i : ℕ). is_broken (get_or (first ∷ []) i Untaken)) a ∙ e
last_on first (next ∷ sents) e =
    let n = length sents in
    let a : suc (suc n) - 1 ≡ suc n = omega arith in
    let b : suc n - 1 ≡ n = omega arith in
    ap (λ (i : ℕ). is_broken (get_or (first ∷ next ∷ sents) i Untaken)) a ∙ ap (λ (i : ℕ). is_broken (get_or (next ∷ sents) i Untaken)) (sym b)

last_broken : (sents : List Sent) → sents ≡ [] → is_broken (last_of (Broken ∷ sents)) ≡ true
last_broken [] e = let a : 1 - 1 ≡ 0 = omega arith in ap (λ (i : ℕ). is_broken (get_or (Broken ∷ []) i Untaken)) a
last_broken (sent ∷ sents) e = cc

-- indices without the first element
places_on : (first : Sent) (sents : List Sent) (place : ℕ) (lefts : List (Option Left)) (turns : List Ending) → SettlesEach (first ∷ sents) (suc place) lefts turns → SettlesEach sents place lefts turns
places_on first sents place [] turns s = s
places_on first sents place (left ∷ lefts) [] s = absurd s
places_on first sents place (left ∷ lefts) (turn ∷ turns) s = (s.0, places_on first sents (suc place) lefts turns s.1)

module _ {L : Type 0} (sends : L → List ℕ → Sent → L → Type 0) where
  -- nothing is offered any more
  none_offered : (link : L) (queued_replies : List (QueuedReply JobReply)) (place : ℕ) (lane lane' : ReplyLane JobReply) (turns : List Ending) → Chain GetsOne lane queued_replies lane'
      → SettlesEach [] place (map (λ (m : QueuedReply JobReply). m.reply.left) queued_replies) turns
      → Chain (WritesOne sends) (record { lane = lane; link = link; is_broken = true }) turns (record { lane = lane'; link = link; is_broken = true })
  none_offered link [] place lane lane' [] gets s = ap (λ (l : ReplyLane JobReply). record { lane = l; link = link; is_broken = true }) gets
  none_offered link [] place lane lane' (turn ∷ turns) gets s = cc
  none_offered link (queued_reply ∷ queued_replies) place lane lane' [] gets s = absurd s
  none_offered link (queued_reply ∷ queued_replies) place lane lane' (turn ∷ turns) gets s = (
    record { lane = gets.0; link = link; is_broken = true },
    record { queued_reply = queued_reply; got = gets.1; offers = record { link_is = refl; ends = s.0; broken_is = refl } },
    none_offered link queued_replies (suc place) gets.0 lane' turns gets.2 s.1,
  )

  abbrev frames_of : List (QueuedReply JobReply) → List (List ℕ)
  frames_of queued_replies = map bytes_of (map (λ (m : QueuedReply JobReply). m.reply.bytes) queued_replies)

  each_offered : (queued_replies : List (QueuedReply JobReply)) (sents : List Sent) (link link' : L) (lane lane' : ReplyLane JobReply) (turns : List Ending) → Chain GetsOne lane queued_replies lane' → SendsEach sends link (frames_of queued_replies) sents link'
      → SettlesEach sents 0 (map (λ (m : QueuedReply JobReply). m.reply.left) queued_replies) turns
      → Chain (WritesOne sends) (record { lane = lane; link = link; is_broken = false }) turns (record { lane = lane'; link = link'; is_broken = is_broken (last_of sents) })
  each_offered [] [] link link' lane lane' [] gets sent s = ap (λ (l : ReplyLane JobReply). record { lane = l; link = link'; is_broken = false }) gets ∙ ap (λ (k : L). record { lane = lane; link = k; is_broken = false }) sent
  each_offered [] [] link link' lane lane' (turn ∷ turns) gets sent s = cc
  each_offered [] (one ∷ sents) link link' lane lane' turns gets sent s = absurd sent
  each_offered (queued_reply ∷ queued_replies) [] link link' lane lane' turns gets sent s = absurd sent
  each_offered (queued_reply ∷ queued_replies) (one ∷ sents) link link' lane lane' [] gets sent s = absurd s
  each_offered (queued_reply ∷ queued_replies) (Taken ∷ sents) link link' lane lane' (turn ∷ turns) gets sent s = (
    record { lane = gets.0; link = sent.0; is_broken = false },
    record { queued_reply = queued_reply; got = gets.1; offers = record { sent = Taken; offer = sent.1; ends = s.0; broken_is = refl } },
    subst (λ (b : Bool). Chain (WritesOne sends) (record { lane = gets.0; link = sent.0; is_broken = false }) turns (record { lane = lane'; link = link'; is_broken = b })) (sym (last_on Taken sents refl))
        (each_offered queued_replies sents sent.0 link' gets.0 lane' turns gets.2 sent.2 (places_on Taken sents 0 (map (λ (m : QueuedReply JobReply). m.reply.left) queued_replies) turns s.1)),
  )
  each_offered (queued_reply ∷ queued_replies) (Untaken ∷ sents) link link' lane lane' (turn ∷ turns) gets sent s = (
    record { lane = gets.0; link = sent.0; is_broken = false },
    record { queued_reply = queued_reply; got = gets.1; offers = record { sent = Untaken; offer = sent.1; ends = s.0; broken_is = refl } },
    subst (λ (b : Bool). Chain (WritesOne sends) (record { lane = gets.0; link = sent.0; is_broken = false }) turns (record { lane = lane'; link = link'; is_broken = b })) (sym (last_on Untaken sents refl))
        (each_offered queued_replies sents sent.0 link' gets.0 lane' turns gets.2 sent.2 (places_on Untaken sents 0 (map (λ (m : QueuedReply JobReply). m.reply.left) queued_replies) turns s.1)),
  )
  each_offered (queued_reply ∷ queued_replies) (Broken ∷ sents) link link' lane lane' (turn ∷ turns) gets sent s =
      let lefts = map (λ (m : QueuedReply JobReply). m.reply.left) queued_replies in (
        record { lane = gets.0; link = link'; is_broken = true },
        record { queued_reply = queued_reply; got = gets.1; offers = record { sent = Broken; offer = sent.0; ends = s.0; broken_is = refl } },
        subst (λ (b : Bool). Chain (WritesOne sends) (record { lane = gets.0; link = link'; is_broken = true }) turns (record { lane = lane'; link = link'; is_broken = b })) (sym (last_broken sents sent.1))
            (none_offered link' queued_replies 0 gets.0 lane' turns gets.2 (subst (λ (ss : List Sent). SettlesEach ss 0 lefts turns) sent.1 (places_on Broken sents 0 lefts turns s.1))),
      )

  pub writes_all : (lane lane' : ReplyLane JobReply) (link link' : L) (before after : Bool) (lefts : List (Option Left)) (bytes : List ReplyBytes) (sents : List Sent) (all : Endings)
      → GetsAll lane lefts bytes lane' → OffersAll sends link (map bytes_of bytes) before sents link' after → SettlesAll lefts sents all
      → WritesAll sends (record { lane = lane; link = link; is_broken = before }) all (record { lane = lane'; link = link'; is_broken = after })
  writes_all lane lane' link link' before after lefts bytes sents all g o s = record {
    turns = s.turns;
    chain = by_before before o;
    all_are = s.all_are;
  } where
    each : SettlesEach sents 0 (map (λ (m : QueuedReply JobReply). m.reply.left) g.queued_replies) s.turns
    each = subst (λ (ls : List (Option Left)). SettlesEach sents 0 ls s.turns) g.left_are s.each

    by_before : (before : Bool) → OffersAll sends link (map bytes_of bytes) before sents link' after
        → Chain (WritesOne sends) (record { lane = lane; link = link; is_broken = before }) s.turns (record { lane = lane'; link = link'; is_broken = after })
    by_before true o =
        let sents_none = subst (λ (ss : List Sent). SettlesEach ss 0 (map (λ (m : QueuedReply JobReply). m.reply.left) g.queued_replies) s.turns) o.0 each in
        subst (λ (k : L). Chain (WritesOne sends) (record { lane = lane; link = link; is_broken = true }) s.turns (record { lane = lane'; link = k; is_broken = after })) (sym o.1)
        (subst (λ (b : Bool). Chain (WritesOne sends) (record { lane = lane; link = link; is_broken = true }) s.turns (record { lane = lane'; link = link; is_broken = b })) (sym o.2) (none_offered link g.queued_replies 0 lane lane' s.turns g.chain sents_none))
    by_before false o =
        let sent = subst (λ (bs : List ReplyBytes). SendsEach sends link (map bytes_of bs) sents link') g.bytes_are o.0 in
        subst (λ (b : Bool). Chain (WritesOne sends) (record { lane = lane; link = link; is_broken = false }) s.turns (record { lane = lane'; link = link'; is_broken = b })) (sym o.1) (each_offered g.queued_replies sents link link' lane lane' s.turns g.chain sent each)
