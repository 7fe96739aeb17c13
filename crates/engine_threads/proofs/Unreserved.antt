-- No call of a session on threads begins a request with a reserved name.
use Rattle.std.proofs.Common.{ℕ, ◌+◌, ◌≤◌, ◌≡◌, Bool, true, false, List, [], ◌∷◌, All, Option, Some, None, flat_map, length, refl, sym, subst, inl, inr, arith}
use Rattle.std.proofs.lemmas.Bool.{cases_eq, cases_lt}
use Rattle.std.proofs.lemmas.List.Elements.{All-append, All-cons, All-nil, All-same}
use Rattle.crossbeam_channel.specs.Claims.{view}
use Rattle.std.proofs.Math.Logic.{∥∥₁_map}
use Rattle.ledger.specs.Shares.{Part}
use Rattle.table_hiding.specs.Hiding.{IsBegunUnreserved}
use Rattle.table_hiding.proofs.Keeping.{begun_unreserved}
use Rattle.table_steps.specs.Answers.{Answer, Settlement}
use Rattle.table_steps.specs.declared.data.Begin.TheVariants.{Busy, Go, Refused}
use Rattle.table_shared.specs.Histories.{unless_busy}
use Rattle.table_shared.specs.Runs.{Call, began, finished, forgot, looked, settled}
use Rattle.terms.specs.declared.settings.Settings.{Settings}
use Rattle.wire.specs.Requests.{opcode_in}
use Rattle.engine.specs.Chain.{Chain}
use Rattle.engine.specs.Classes.{class}
use Rattle.engine.specs.Reference.{Turn, is_taken}
use Rattle.engine.specs.Serving.{Behaviour}
use Rattle.engine.specs.declared.links.Sent.{Sent}
use Rattle.engine.proofs.Carrying.{Carries, frame_carried}
use Rattle.engine_turns.specs.declared.job.Job.{Job}
use Rattle.engine_queues.specs.declared.left.Left.{Left}
use Rattle.engine_queues.specs.declared.replies.QueuedReply.{QueuedReply}
use Rattle.engine_queues.specs.declared.passes.Passes.{Passes}
use Rattle.engine_turns.specs.Writes.{HasWritten, unsent}
use Rattle.engine_turns.specs.TableCalls.{Fresh, Given, Known, OnTable, Settled, TurnEnd, left_in, settlement_of, settling, then_made, known_table}
use Rattle.engine_turns.specs.Batches.{WritesOne, Writing}
use Rattle.engine_turns.specs.Rights.{IsJobHandled}
use Rattle.engine_turns.specs.Turns.{AnswersJob, Ending, IsEnded, Met, Offers, Outbox, PutsReply, Standing, ending, handed_back, is_put, none, settles_of, takes}
use Rattle.engine_turns.specs.declared.replies.JobReply.{JobReply}
use Rattle.engine_threads.specs.Worked.{AnswersLast, HasWorkedFrom, Stand, WorkedAt, WorkedEach, WorksOne, beside, made_by, newcomer, stand}

-- a begin, if the call is one, has no reserved name
abbrev pub IsUnreservedCall : Call → Type 0
IsUnreservedCall (began unique want told) = IsBegunUnreserved want told
IsUnreservedCall (finished id outcome told) = Unit {0}
IsUnreservedCall (settled answer taken told) = Unit {0}
IsUnreservedCall (forgot number n told) = Unit {0}
IsUnreservedCall (looked fh told) = Unit {0}

abbrev pub AreUnreserved : List Call → Type 0
AreUnreserved calls = All IsUnreservedCall calls

no_calls : AreUnreserved []
no_calls = All-nil IsUnreservedCall

one_call : (call : Call) → IsUnreservedCall call → AreUnreserved (call ∷ [])
one_call call is = All-cons IsUnreservedCall call [] is no_calls

told_call : (call : Call) → IsUnreservedCall call → AreUnreserved (unless_busy call)
told_call (began unique want (Go ticket)) is = one_call (began unique want (Go ticket)) is
told_call (began unique want Busy) is = no_calls
told_call (began unique want (Refused errno)) is = one_call (began unique want (Refused errno)) is
told_call (finished id outcome told) is = one_call (finished id outcome told) is
told_call (settled answer taken told) is = one_call (settled answer taken told) is
told_call (forgot number n told) is = one_call (forgot number n told) is
told_call (looked fh told) is = one_call (looked fh told) is

-- ---- a job

abbrev IsUnreservedSoFar : Known → Type 0
IsUnreservedSoFar k = AreUnreserved k.on_table.calls

-- one more call
made_on : (old new : Known) (call : Call) (turn_end : TurnEnd) → IsUnreservedCall call → IsUnreservedSoFar old → new ≡ record { turn_end = turn_end; on_table = then_made old.on_table call } → IsUnreservedSoFar new
made_on old new call turn_end is so same =
    subst IsUnreservedSoFar (sym same) (All-append IsUnreservedCall old.on_table.calls (unless_busy call) so (told_call call is))

settled_on : (old : Known) (answer : Answer) (put : Option ℕ) (taken : Bool) → IsUnreservedSoFar old → IsUnreservedSoFar (settling old answer put taken)
settled_on old answer put true so = so
settled_on old answer put false so = made_on old (settling old answer put false) (settled answer false (settlement_of answer false)) (Settled (settlement_of answer false)) tt so refl

known_table_carries : Carries known_table known_table IsUnreservedSoFar
known_table_carries = record {
  begins = λ old new unique want told plain so it. (it, made_on old new (began unique want told) old.turn_end (begun_unreserved want told plain) so it.1);
  finishes = λ old new id outcome answer so it. (it, made_on old new (finished id outcome answer) (Given answer) tt so it);
  settles = λ old new answer put taken so it. (it, subst IsUnreservedSoFar (sym it) (settled_on old answer put taken so));
  forgets = λ old new number n so it. (it, made_on old new (forgot number n it.0) old.turn_end tt so it.1);
  finds = λ old new fh file so it. (it, made_on old new (looked fh file) old.turn_end tt so it);
  knows = λ answer known. known;
  idle = λ w idle. idle;
}

handled_unreserved : (settings : Settings) (job : Job) (turn : Turn) (before : OnTable) (turn_end : TurnEnd) (after : OnTable) → IsJobHandled settings job turn before turn_end after → AreUnreserved before.calls → AreUnreserved after.calls
handled_unreserved settings job turn before turn_end after it so =
    (frame_carried known_table known_table IsUnreservedSoFar known_table_carries settings job.agreed (class job.agreed (opcode_in turn.frame)) (record { turn_end = Fresh; on_table = before }) turn (record { turn_end = turn_end; on_table = after }) it.now so it.meets).1

settles_unreserved : (left : Option Left) (taken : Bool) → AreUnreserved (settles_of left taken)
settles_unreserved None taken = no_calls
settles_unreserved (Some left) taken = one_call (settled left.answered taken (settlement_of left.answered taken)) tt

puts_unreserved : (settings : Settings) (from : ℕ) (job : Job) (met : Met) (old : Outbox) (did : Ending) (new : Outbox) → PutsReply settings from job met old did new → AreUnreserved did.on_table
puts_unreserved settings from job met old did new (is_put bytes queued_reply said to put done folders calls) = All-same IsUnreservedCall did.on_table [] calls no_calls
puts_unreserved settings from job met old did new (handed_back bytes said back done folders calls) = All-same IsUnreservedCall did.on_table (settles_of (left_in met.turn_end) false) calls (settles_unreserved (left_in met.turn_end) false)
puts_unreserved settings from job met old did new (none said same done folders calls) = All-same IsUnreservedCall did.on_table [] calls no_calls

-- ---- a worker

module _ {C D : Type 0} (does : Behaviour C D) (settings : Settings) where
  answers_unreserved : (from : ℕ) (job : Job) (old : Standing C D) (done : Option Settlement) (new : Standing C D) → AnswersJob does settings from job old done new → AreUnreserved old.means.on_table.calls → AreUnreserved new.means.on_table.calls
  answers_unreserved from job old done new it so =
      let handled = handled_unreserved settings job it.meets.turn old.means.on_table it.met.turn_end it.handled it.meets.handled so in
      let puts = puts_unreserved settings from job it.met old.out (ending done it.puts.folders it.puts.calls) new.out it.puts.so in
      subst (λ (t : OnTable). AreUnreserved t.calls) (sym it.puts.on_table) (All-append IsUnreservedCall it.handled.calls it.puts.calls handled puts)

  works_unreserved : (from : ℕ) (all : List (Option Settlement)) (old new : Stand C) → Chain (WorksOne does settings from) old all new → AreUnreserved old.on_table.calls → AreUnreserved new.on_table.calls
  works_unreserved from [] old new same so = subst (λ (s : Stand C). AreUnreserved s.on_table.calls) (sym same) so
  works_unreserved from (one ∷ all) old new (mid, w, rest) so =
      works_unreserved from all mid new rest (answers_unreserved from w.worked.job (takes (beside old w.dirs) w.worked.job) one (beside mid w.dirs') w.worked.answers so)

  last_unreserved : (from : ℕ) (last_job : Option Job) (old new : Stand C) → AnswersLast does settings from last_job old new → AreUnreserved old.on_table.calls → AreUnreserved new.on_table.calls
  last_unreserved from None old new same so = subst (λ (s : Stand C). AreUnreserved s.on_table.calls) (sym same) so
  last_unreserved from (Some job) old new it so = answers_unreserved from job (beside old it.dirs) it.settled (beside new it.dirs') it.answers so

  worked_unreserved : (number : ℕ) (first : C) (last_job : Option Job) (passes : Passes Job JobReply) (left : C) (share : Part) (on_table : OnTable) → HasWorkedFrom does settings number first last_job passes left share on_table → AreUnreserved on_table.calls
  worked_unreserved number first last_job passes left share on_table it =
      last_unreserved number last_job it.before (stand (view passes.job_pass) (view passes.reply_pass) left share on_table) it.last
      (works_unreserved number it.worked.works.settled (newcomer number first it.worked.share) it.before it.worked.works.works no_calls)

-- ---- the writer

module _ {L : Type 0} (sends : L → List ℕ → Sent → L → Type 0) where
  ended_unreserved : (left : Option Left) (taken : Bool) (did : Ending) → IsEnded left taken did → AreUnreserved did.on_table
  ended_unreserved left taken did it = All-same IsUnreservedCall did.on_table (settles_of left taken) it.settles (settles_unreserved left taken)

  offers_unreserved : (queued_reply : QueuedReply JobReply) (did : Ending) (link link' : L) (before after : Bool) → Offers sends queued_reply did link link' before after → AreUnreserved did.on_table
  offers_unreserved queued_reply did link link' true after it = ended_unreserved queued_reply.reply.left false did it.ends
  offers_unreserved queued_reply did link link' false after it = ended_unreserved queued_reply.reply.left (is_taken it.sent) did it.ends

  writes_unreserved : (turns : List Ending) (old new : Writing L) → Chain (WritesOne sends) old turns new → AreUnreserved (flat_map (λ (turn : Ending). turn.on_table) turns)
  writes_unreserved [] old new same = no_calls
  writes_unreserved (turn ∷ turns) old new (mid, wrote, rest) =
      All-append IsUnreservedCall turn.on_table (flat_map (λ (turn : Ending). turn.on_table) turns)
      (offers_unreserved wrote.queued_reply turn old.link mid.link old.is_broken mid.is_broken wrote.offers) (writes_unreserved turns mid new rest)

  pub written_unreserved : (from : Option L) (senders : ℕ) (on_table : OnTable) (now : Writing L) → HasWritten sends from senders on_table now → AreUnreserved on_table.calls
  written_unreserved from senders on_table now w =
      let all = All-same IsUnreservedCall w.all.on_table (flat_map (λ (turn : Ending). turn.on_table) w.writes.turns) w.writes.all_are.on_table_are (writes_unreserved w.writes.turns (unsent w.link senders) now w.writes.chain) in
      subst (λ (t : OnTable). AreUnreserved t.calls) (sym w.calls_are) all

-- ---- all threads

module _ {C D O : Type 0} (does : Behaviour C D) (sends : O → List ℕ → Sent → O → Type 0) (settings : Option Settings) (calls_by : ℕ → List Call) (given : List C) where
  at_unreserved : (last_job : Option Job) (passes : List (Passes Job JobReply)) (lefts : List C) (n : ℕ) → ∥ WorkedAt does settings calls_by last_job given passes lefts n ∥₁ → ∥ AreUnreserved (calls_by n) ∥₁
  at_unreserved last_job passes lefts n h = ∥∥₁_map h (λ (k : WorkedAt does settings calls_by last_job given passes lefts n).
      worked_unreserved does k.ended.of k.own.number k.ended.first last_job k.own k.left k.share (made_by calls_by n) k.ended.worked)

  pub all_unreserved : (passes : List (Passes Job JobReply)) (lefts : List C) (last_job : Option Job) (from : Option O) (now : Writing O)
      → WorkedEach does settings calls_by last_job given passes lefts → ∥ HasWritten sends from (length given) (made_by calls_by (length given)) now ∥₁
      → ((index : ℕ) → length given + 1 ≤ index → calls_by index ≡ []) → (index : ℕ) → ∥ AreUnreserved (calls_by index) ∥₁
  all_unreserved passes lefts last_job from now worked written nobody index = elim (cases_lt (index + 1) (length given)) [
    | inl other ↦ at_unreserved None passes lefts index (worked.others index other)
    | inr above ↦ elim (cases_eq (index + 1) (length given)) [
      | inl last ↦ at_unreserved last_job passes lefts index (worked.last index last)
      | inr beyond ↦ elim (cases_eq (length given) index) [
        | inl writer ↦ subst (λ k. ∥ AreUnreserved (calls_by k) ∥₁) writer (∥∥₁_map written (λ (w : HasWritten sends from (length given) (made_by calls_by (length given)) now). written_unreserved sends from (length given) (made_by calls_by (length given)) now w))
        | inr another ↦ ∣ All-same IsUnreservedCall (calls_by index) [] (nobody index (omega arith)) no_calls ∣₁
      ]
    ]
  ]
