-- A property that each step of a table keeps, if it begins with no reserved name, is kept by a whole session.
use Rattle.std.proofs.Common.{ℕ, ◌≡◌, Bool, true, false, List, [], ◌∷◌, Option, Some, None, ap, sym, subst, inl, inr}
use Rattle.table_files.specs.declared.data.OpenFile.{OpenFile}
use Rattle.table_requests.specs.declared.data.Want.{Want}
use Rattle.table_hiding.specs.Hiding.{IsUnreserved}
use Rattle.table_steps.specs.Answers.{Answer}
use Rattle.table_steps.specs.declared.data.Begin.{Begin}
use Rattle.table_steps.specs.declared.data.Begin.TheVariants.{Go, Refused}
use Rattle.table_steps.specs.declared.data.Outcome.{Outcome}
use Rattle.wire.specs.Requests.{opcode_in}
use Rattle.wire.specs.declared.fault.WireFault.{WireFault}
use Rattle.wire.specs.declared.greeting.Negotiated.{Negotiated}
use Rattle.wire.specs.declared.pairs.ForgetOne.{ForgetOne}
use Rattle.wire.specs.declared.reply.ReplyBody.{ReplyBody}
use Rattle.wire.specs.declared.request.Request.{Request}
use Rattle.terms.specs.declared.settings.Settings.{Settings}
use Rattle.ops.specs.declared.intents.FolderUse.{FolderUse}
use Rattle.ops.specs.Intents.{Intent, intent}
use Rattle.ops.specs.Intents as intents
use Rattle.ops.specs.Pages.{no_page, page_want}
use Rattle.engine.specs.Chain.{Chain}
use Rattle.engine.specs.Classes.{class, is_unanswered}
use Rattle.engine.specs.declared.classes.Class.{Class}
use Rattle.engine.specs.declared.classes.Class.TheVariants.{Ignored, Unexpected, InitFrame, DestroyFrame, Asking}
use Rattle.engine.specs.Reference.{Answers, Asks, At, AtBegin, AtListing, AtReply, AtScript, Attempt, Faults, ForgetsAll, HandlesFrame, HandlesInit, IsRefused, IsTurn, Place, RunsRequest, Serves, TellsEntries, Turn, WorksOff, attempt, taken_of}
use Rattle.engine.specs.Tables.{Table}
use Rattle.engine.proofs.Unreserved.{IsPlainIntent, intent_plain, page_plain}

-- each call of the first table is one of the second, and keeps the property of its state
pub record Carries {W : Type 0} (table other : Table W) (P : W → Type 0) : Type 0 where
  pub begins : (old new : W) (unique : ℕ) (want : Want) (told : Begin) → IsUnreserved want → P old → table.begins old unique want told new → other.begins old unique want told new × P new
  pub finishes : (old new : W) (id : ℕ) (outcome : Outcome) (answer : Answer) → P old → table.finishes old id outcome answer new → other.finishes old id outcome answer new × P new
  pub settles : (old new : W) (answer : Answer) (put : Option ℕ) (taken : Bool) → P old → table.settles old answer put taken new → other.settles old answer put taken new × P new
  pub forgets : (old new : W) (number n : ℕ) → P old → table.forgets old number n new → other.forgets old number n new × P new
  pub finds : (old new : W) (fh : ℕ) (file : Option OpenFile) → P old → table.finds old fh file new → other.finds old fh file new × P new
  pub knows : (answer : Answer) → table.knows answer → other.knows answer
  pub idle : (w : W) → table.is_idle w → other.is_idle w

answers_same : {W : Type 0} (unique : ℕ) (meant : ReplyBody) (old : W) (turn : Turn) (new : W) → Answers unique meant old turn new → new ≡ old
answers_same unique meant old turn new it = it.2.same

init_same : {W : Type 0} (unique : ℕ) (answer : Option Negotiated) (before : Bool) (old : W) (turn : Turn) (new : W) (now : Bool) → HandlesInit unique answer before old turn new now → new ≡ old
init_same unique None before old turn new now it = absurd it
init_same unique (Some answer) before old turn new now it = it.0.2.same

module _ {W : Type 0} (table other : Table W) (P : W → Type 0) (carries : Carries table other P) (settings : Settings) where
  stays : (old new : W) → new ≡ old → P old → P new
  stays old new same p = subst P (sym same) p

  forgets_carried : (lookups : List ForgetOne) (old new : W) → P old → ForgetsAll table old lookups new → ForgetsAll other old lookups new × P new
  forgets_carried [] old new p same = (same, stays old new same p)
  forgets_carried (one ∷ lookups) old new p (mid, forgets, rest) =
      let a = carries.forgets old mid one.node one.nlookup p forgets in
      let b = forgets_carried lookups mid new a.1 rest in
      ((mid, a.0, b.0), b.1)

  -- ---- a request that begins

  runs_carried : (a : Attempt) (old : W) (turn : Turn) (new : W) → IsUnreserved a.want → P old → RunsRequest table settings a old turn new → RunsRequest other settings a old turn new × P new
  runs_carried a old turn new plain p it =
      let b = carries.begins old it.begun a.q.unique a.want (Go it.ticket) plain p it.begins in
      let e = it.concluded in
      let f = carries.finishes it.begun e.finished it.ticket.id it.end.outcome e.answer b.1 e.finishes in
      let s = carries.settles e.finished new e.answer e.put (taken_of turn.refused turn.offer) f.1 e.settles in
      let runs : RunsRequest other settings a old turn new = record {
        ticket = it.ticket;
        begun = it.begun;
        begins = b.0;
        end = it.end;
        script = it.script;
        more = it.more;
        concluded = record {
          answer = e.answer;
          finished = e.finished;
          finishes = f.0;
          put = e.put;
          first = e.first;
          stores = e.stores;
          said = e.said;
          said_is = e.said_is;
          offers = e.offers;
          settles = s.0;
          last = e.last;
          gives_up = e.gives_up;
          folders_are = e.folders_are;
        };
        known = carries.knows e.answer it.known;
        folders_are = it.folders_are;
      } in
      (runs, s.1)

  refused_carried : (a : Attempt) (old : W) (turn : Turn) (new : W) → IsUnreserved a.want → P old → IsRefused table settings a old turn new → IsRefused other settings a old turn new × P new
  refused_carried a old turn new plain p it =
      let b = carries.begins old new a.q.unique a.want (Refused it.errno) plain p it.begins in
      let refused : IsRefused other settings a old turn new = record { errno = it.errno; begins = b.0; says = it.says } in
      (refused, b.1)

  works_carried : (place : Option Place) (a : Attempt) (old : W) (turn : Turn) (new : W) → IsUnreserved a.want → P old → WorksOff table settings place a old turn new → WorksOff other settings place a old turn new × P new
  works_carried None a old turn new plain p (inl it) = let r = refused_carried a old turn new plain p it in (inl r.0, r.1)
  works_carried None a old turn new plain p (inr it) = let r = runs_carried a old turn new plain p it in (inr r.0, r.1)
  works_carried (Some AtBegin) a old turn new plain p it = (it, stays old new it.1.same p)
  works_carried (Some AtScript) a old turn new plain p it = runs_carried a old turn new plain p it
  works_carried (Some AtListing) a old turn new plain p it = runs_carried a old turn new plain p it
  works_carried (Some AtReply) a old turn new plain p it = runs_carried a old turn new plain p it

  tells_carried : (q : Request) (fh : ℕ) (usage : FolderUse) (old : W) (turn : Turn) (new : W) → P old → TellsEntries table settings q fh usage old turn new → TellsEntries other settings q fh usage old turn new × P new
  tells_carried q fh usage old turn new p (lends, page, lent, works) =
      let r = works_carried turn.refused (attempt q (page_want q.node page.entries) lends page) old turn new (page_plain q.node page.entries) p works in
      ((lends, page, lent, r.0), r.1)

  -- ---- a request

  serves_carried : (q : Request) (i : Intent) (old : W) (turn : Turn) (new : W) → IsPlainIntent i → P old → Serves table settings q i old turn new → Serves other settings q i old turn new × P new
  serves_carried q (intents.Reply meant) old turn new plain p it = (it, stays old new (answers_same q.unique meant old turn new it) p)
  serves_carried q (intents.Begin want) old turn new plain p it = works_carried turn.refused (attempt q want [] no_page) old turn new plain p it
  serves_carried q (intents.File fh) old turn new plain p (file, found, finds, answers) =
      let f = carries.finds old found fh file p finds in
      ((file, found, f.0, answers), stays found new (answers_same q.unique _ found turn new answers) f.1)
  serves_carried q (intents.Folder fh usage) old turn new plain p (inl uses) = (inl uses, stays old new uses.same p)
  serves_carried q (intents.Folder fh usage) old turn new plain p (inr tells) = let r = tells_carried q fh usage old turn new p tells in (inr r.0, r.1)
  serves_carried q (intents.Forget lookups) old turn new plain p (silent, forgets) = let r = forgets_carried lookups old new p forgets in ((silent, r.0), r.1)
  serves_carried q intents.Nothing old turn new plain p it = (it, stays old new it.1 p)

  faults_carried : (unanswered : Bool) (fault : WireFault) (old : W) (turn : Turn) (new : W) → P old → Faults table settings unanswered fault old turn new → Faults other settings unanswered fault old turn new × P new
  faults_carried true fault old turn new p it = (it, stays old new it.1 p)
  faults_carried false fault old turn new p it = (it, stays old new (answers_same _ _ old turn new it) p)

  asks_carried : (old : W) (turn : Turn) (new : W) → P old → Asks table settings old turn new → Asks other settings old turn new × P new
  asks_carried old turn new p (inl (q, request, serves)) =
      let r = serves_carried q (intent settings q) old turn new (intent_plain settings q) p serves in
      (inl (q, request, r.0), r.1)
  asks_carried old turn new p (inr (fault, first, faults)) =
      let r = faults_carried (is_unanswered (opcode_in turn.frame)) fault old turn new p faults in
      (inr (fault, first, r.0), r.1)

  -- ---- a frame

  pub frame_carried : (before : Bool) (c : Class) (old : W) (turn : Turn) (new : W) (now : Bool) → P old → HandlesFrame table settings before c old turn new now → HandlesFrame other settings before c old turn new now × P new
  frame_carried before Ignored old turn new now p it = (it, stays old new it.1 p)
  frame_carried before Unexpected old turn new now p it = (it, stays old new (answers_same _ _ old turn new it.0) p)
  frame_carried before InitFrame old turn new now p (lives, inl (q, request, init)) = ((lives, inl (q, request, init)), stays old new (init_same q.unique _ before old turn new now init) p)
  frame_carried before InitFrame old turn new now p (lives, inr (fault, first, refuses, rest)) = ((lives, inr (fault, first, refuses, rest)), stays old new (answers_same _ _ old turn new refuses) p)
  frame_carried before DestroyFrame old turn new now p (agreed, inl (q, request, answers, ends)) = ((agreed, inl (q, request, answers, ends)), stays old new (answers_same _ _ old turn new answers) p)
  frame_carried before DestroyFrame old turn new now p (agreed, inr (fault, first, refuses, lives)) = ((agreed, inr (fault, first, refuses, lives)), stays old new (answers_same _ _ old turn new refuses) p)
  frame_carried before Asking old turn new now p (asks, rest) = let r = asks_carried old turn new p asks in ((r.0, rest), r.1)

  turn_carried : (old : At W) (turn : Turn) (new : At W) → P old.world → IsTurn table settings old turn new → IsTurn other settings old turn new × P new.world
  turn_carried old turn new p it =
      let r = frame_carried old.agreed (class old.agreed (opcode_in turn.frame)) old.world turn new.world new.agreed p it.meets in
      let is : IsTurn other settings old turn new = record { goes = it.goes; meets = r.0; end = it.end; idle = carries.idle new.world it.idle } in
      (is, r.1)

  pub turns_carried : (turns : List Turn) (old new : At W) → P old.world → Chain (IsTurn table settings) old turns new → Chain (IsTurn other settings) old turns new × P new.world
  turns_carried [] old new p same = (same, stays old.world new.world (ap (λ (at : At W). at.world) same) p)
  turns_carried (turn ∷ turns) old new p (mid, one, rest) =
      let a = turn_carried old turn mid p one in
      let b = turns_carried turns mid new a.1 rest in
      ((mid, a.0, b.0), b.1)
