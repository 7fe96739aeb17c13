-- The results of one frame.
use Rattle.std.proofs.Common.{ℕ, ℤ, ◌≡◌, true, false, List, [], ◌++◌, Option, Some, None, IfSome, IfNone, inl, inr, refl, subst, append-nil}
use Rattle.errno.specs.declared.TheConstants.{ENOMEM}
use Rattle.table_files.specs.declared.data.OpenFile.{OpenFile}
use Rattle.table_requests.specs.declared.data.Want.{Want}
use Rattle.table_steps.specs.Answers.{Claim}
use Rattle.table_steps.specs.declared.data.Begin.TheVariants.{Go, Refused}
use Rattle.wire.specs.Faults.{IsFirstFault}
use Rattle.wire.specs.Requests.{IsRequest, opcode_in, unique_in}
use Rattle.wire.specs.Written.{reply_bytes}
use Rattle.wire.specs.declared.fault.WireFault.{WireFault}
use Rattle.wire.specs.declared.reply.Reply.{Reply}
use Rattle.wire.specs.declared.reply.ReplyBody.{ReplyBody}
use Rattle.wire.specs.declared.reply.ReplyBody.TheVariants.{Failed}
use Rattle.wire.specs.declared.request.Request.{Request}
use Rattle.engine.specs.declared.links.Sent.{Sent}
use Rattle.ops.specs.Intents.{Intent, intent, refusal_errno}
use Rattle.ops.specs.Intents as intents
use Rattle.handles.specs.Calls.{FolderCall}
use Rattle.engine.specs.Reference.{Attempt, Place, AtBegin, AtScript, AtListing, AtReply, Turn, ForgetsAll, HasNames, IsSaid, IsTold, Says, Serves, RunsRequest, WorksOff, attempt, begun_with}
use Rattle.wire.specs.declared.pairs.ForgetOne.{ForgetOne}
use Rattle.ops.specs.declared.intents.FolderUse.{FolderUse}
use Rattle.ops.specs.Pages.{no_page, page_want}
use Rattle.engine.specs.Chain.{Chain}
use Rattle.engine.specs.Classes.{is_unanswered}
use Rattle.engine.specs.Folders.{LacksAnswer}
use Rattle.engine.specs.Replies.{refusal, TakesMemory}
use Rattle.ops.specs.Replies.{file_reply}
use Rattle.ops.specs.Scripts.{Made}
use Rattle.engine.specs.Serving.{Behaviour, Environment, around}
use Rattle.engine.specs.Walks.{Rules, IsAnswered, WorkedOff, RunsScript, RunsOut, TellsPage, UsesOut}
use Rattle.engine.proofs.Runs.{chain_append}

-- a frame with its reply
abbrev pub acting : List ℕ → Option Place → List Made → List FolderCall → ℕ → ReplyBody → Sent → Turn
acting frame refused made folders unique said sent = record {
  frame = frame;
  refused = refused;
  made = made;
  folders = folders;
  offer = Some (record { reply = record { unique = unique; body = said }; sent = sent });
  destroyed = false;
}

-- the same without calls of the open folders
abbrev pub answering : List ℕ → Option Place → List Made → ℕ → ReplyBody → Sent → Turn
answering frame refused made unique said sent = acting frame refused made [] unique said sent

-- a frame without a reply
abbrev pub silent : List ℕ → Turn
silent frame = record { frame = frame; refused = None; made = []; folders = []; offer = None; destroyed = false }

-- the same, starting from the same link
pub sent_from : {L : Type 0} (sends : L → List ℕ → Sent → L → Type 0) (old mid new : L) (bytes : List ℕ) (sent : Sent) → mid ≡ old → sends mid bytes sent new → sends old bytes sent new
sent_from {L = L} sends old mid new bytes sent same s = subst (λ (l : L). sends l bytes sent new) same s

pub starved : {L : Type 0} (sends : L → List ℕ → Sent → L → Type 0) (meant : Reply) (old new : L) (sent : Sent) → TakesMemory meant.body → sends old (reply_bytes (refusal meant.unique ENOMEM)) sent new → IsAnswered sends meant old sent new
starved sends meant old new sent takes s = record { refused = Some AtReply; said = Failed ENOMEM; said_is = (takes, refl); offer = s }

module _ {W L C D : Type 0} (rules : Rules W L) (does : Behaviour C D) where
  -- a frame that is not a request
  pub fault_answered : (frame : List ℕ) (fault : WireFault) (old : Environment W L C D) (link : L) (result : Option Sent) → IsFirstFault rules.settings.names frame fault
      → IfSome result (λ sent. (is_unanswered (opcode_in frame) ≡ false) × rules.sends old.link (reply_bytes (refusal (unique_in frame) (refusal_errno rules.settings (opcode_in frame) fault))) sent link)
      → IfNone result ((is_unanswered (opcode_in frame) ≡ true) × (link ≡ old.link))
      → WorkedOff rules does frame old result (around link old.served old.at)
  fault_answered frame fault old link (Some sent) is some none =
      let said = Failed (refusal_errno rules.settings (opcode_in frame) fault) in
      let turn = answering frame None [] (unique_in frame) said sent in
      record {
        turn = turn;
        frame_is = refl;
        sent_is = refl;
        lives = refl;
        asks = inr (fault, is, rw some.0 (said, refl, record { offers = refl; no_call = refl; folders_are = refl; same = refl }));
        draws = record { makes = refl; keeps = refl };
        passes = some.1;
      }
  fault_answered frame fault old link None is some none = record {
    turn = silent frame;
    frame_is = refl;
    sent_is = refl;
    lives = refl;
    asks = inr (fault, is, rw none.0 (record { no_offer = refl; no_call = refl; no_folder = refl; no_place = refl }, refl));
    draws = record { makes = refl; keeps = refl };
    passes = none.1;
  }

  -- a request that is answered at once
  pub said_at_once : (frame : List ℕ) (q : Request) (meant : ReplyBody) (old : Environment W L C D) (link : L) (sent : Sent) → IsRequest rules.settings.names frame q → intents.Reply meant ≡ intent rules.settings q
      → IsAnswered rules.sends (record { unique = q.unique; body = meant }) old.link sent link
      → WorkedOff rules does frame old (Some sent) (around link old.served old.at)
  said_at_once frame q meant old link sent is i a =
      let turn = answering frame a.refused [] q.unique a.said sent in
      record {
        turn = turn;
        frame_is = refl;
        sent_is = refl;
        lives = refl;
        asks = inl (q, is, subst (λ (x : Intent). Serves rules.table rules.settings q x old.at turn old.at) i (a.said, a.said_is, record { offers = refl; no_call = refl; folders_are = refl; same = refl }));
        draws = record { makes = refl; keeps = refl };
        passes = a.offer;
      }

  -- a request that asks whether a file is open
  pub asked_of_file : (frame : List ℕ) (q : Request) (fh : ℕ) (file : Option OpenFile) (meant : ReplyBody) (old : Environment W L C D) (at : W) (link : L) (sent : Sent) → IsRequest rules.settings.names frame q → intents.File fh ≡ intent rules.settings q → rules.table.finds old.at fh file at → meant ≡ file_reply q.node file
      → IsAnswered rules.sends (record { unique = q.unique; body = meant }) old.link sent link
      → WorkedOff rules does frame old (Some sent) (around link old.served at)
  asked_of_file frame q fh file meant old at link sent is i found e a =
      let turn = answering frame a.refused [] q.unique a.said sent in
      record {
        turn = turn;
        frame_is = refl;
        sent_is = refl;
        lives = refl;
        asks = inl (q, is, subst (λ (x : Intent). Serves rules.table rules.settings q x old.at turn at) i (file, at, found, (a.said, subst (λ (body : ReplyBody). IsSaid a.refused body a.said) e a.said_is, record { offers = refl; no_call = refl; folders_are = refl; same = refl })));
        draws = record { makes = refl; keeps = refl };
        passes = a.offer;
      }

  -- lookups are forgotten
  pub forgot : (frame : List ℕ) (q : Request) (lookups : List ForgetOne) (old : Environment W L C D) (at : W) → IsRequest rules.settings.names frame q → intents.Forget lookups ≡ intent rules.settings q → ForgetsAll rules.table old.at lookups at
      → WorkedOff rules does frame old None (around old.link old.served at)
  forgot frame q lookups old at is i f = record {
    turn = silent frame;
    frame_is = refl;
    sent_is = refl;
    lives = refl;
    asks = inl (q, is, subst (λ (x : Intent). Serves rules.table rules.settings q x old.at (silent frame) at) i (record { no_offer = refl; no_call = refl; no_folder = refl; no_place = refl }, f));
    draws = record { makes = refl; keeps = refl };
    passes = refl;
  }

  -- entries of an open folder are returned by a request that begins
  told_entries : (frame : List ℕ) (q : Request) (fh : ℕ) (usage : FolderUse) (old new : Environment W L C D) (sent : Sent) → IsRequest rules.settings.names frame q → intents.Folder fh usage ≡ intent rules.settings q
      → TellsPage rules does q fh usage old sent new
      → WorkedOff rules does frame old (Some sent) new
  told_entries frame q fh usage old new sent is i t =
      let a = t.runs in
      let turn = acting frame a.refused a.made (t.lends.folders ++ a.more) q.unique a.said sent in
      record {
        turn = turn;
        frame_is = refl;
        sent_is = refl;
        lives = refl;
        asks = inl (q, is, subst (λ (x : Intent). Serves rules.table rules.settings q x old.at turn new.at) i (inr (t.lends.folders, t.page, t.lends.so, a.works frame)));
        draws = record { makes = a.draws.makes; keeps = chain_append does.keeps old.served.dirs t.lent new.served.dirs t.lends.folders a.more t.lends.chain a.draws.keeps };
        passes = a.offer;
      }

  -- a request that uses an open folder
  pub used : (frame : List ℕ) (q : Request) (fh : ℕ) (usage : FolderUse) (old new : Environment W L C D) (sent : Sent) → IsRequest rules.settings.names frame q → intents.Folder fh usage ≡ intent rules.settings q
      → UsesOut rules does q fh usage old sent new
      → WorkedOff rules does frame old (Some sent) new
  used frame q fh usage old new sent is i (inr t) = told_entries frame q fh usage old new sent is i t
  used frame q fh usage old new sent is i (inl u) =
      let turn = acting frame u.told.refused [] u.uses.folders q.unique u.told.said sent in
      record {
        turn = turn;
        frame_is = refl;
        sent_is = refl;
        lives = refl;
        asks = inl (
          q,
          is,
          subst (λ (x : Intent). Serves rules.table rules.settings q x old.at turn new.at) i (inl (record {
            meant = u.meant;
            used = u.uses.so;
            said = u.told.said;
            said_is = u.told.said_is;
            offers = refl;
            no_call = refl;
            same = u.world_is;
          })),
        );
        draws = record { makes = u.calls_are; keeps = u.uses.chain };
        passes = u.told.offer;
      }

  -- a request that is ignored
  pub passed_over : (frame : List ℕ) (q : Request) (old : Environment W L C D) → IsRequest rules.settings.names frame q → intents.Nothing ≡ intent rules.settings q → WorkedOff rules does frame old None old
  passed_over frame q old is i = record {
    turn = silent frame;
    frame_is = refl;
    sent_is = refl;
    lives = refl;
    asks = inl (q, is, subst (λ (x : Intent). Serves rules.table rules.settings q x old.at (silent frame) old.at) i (record { no_offer = refl; no_call = refl; no_folder = refl; no_place = refl }, refl));
    draws = record { makes = refl; keeps = refl };
    passes = refl;
  }

  -- a request that begins
  pub carried : (frame : List ℕ) (q : Request) (want : Want) (old new : Environment W L C D) (sent : Sent) → IsRequest rules.settings.names frame q → intents.Begin want ≡ intent rules.settings q
      → RunsOut rules does (attempt q want [] no_page) old sent new
      → WorkedOff rules does frame old (Some sent) new
  carried frame q want old new sent is i a =
      let turn = acting frame a.refused a.made a.more q.unique a.said sent in
      record {
        turn = turn;
        frame_is = refl;
        sent_is = refl;
        lives = refl;
        asks = inl (q, is, subst (λ (x : Intent). Serves rules.table rules.settings q x old.at turn new.at) i (a.works frame));
        draws = a.draws;
        passes = a.offer;
      }

  -- ---- a request from begin to settle

  works_by : (refused : Option Place) (a : Attempt) (old : W) (turn : Turn) (new : W) (meant said : ReplyBody) → IsTold refused meant said → RunsRequest rules.table rules.settings a old turn new
      → WorksOff rules.table rules.settings refused a old turn new
  works_by None a old turn new meant said is c = inr c
  works_by (Some AtBegin) a old turn new meant said is c = absurd is
  works_by (Some AtScript) a old turn new meant said is c = c
  works_by (Some AtListing) a old turn new meant said is c = c
  works_by (Some AtReply) a old turn new meant said is c = c

  pub goes_on : (a : Attempt) (ticket : Claim) (old new : Environment W L C D) (at : W) (sent : Sent) → rules.table.begins old.at a.q.unique a.want (Go ticket) at
      → (p : RunsScript rules does (begun_with a.q a.page ticket) (around old.link old.served at) sent new) → rules.table.knows p.concludes.so.concluded.answer
      → RunsOut rules does a old sent new
  goes_on a ticket old new at sent b p known =
      let e = p.concludes.so in
      let more = p.concludes.folders in
      record {
        refused = e.refused;
        made = p.made;
        more = more;
        said = e.said;
        draws = record { makes = p.makes; keeps = p.concludes.chain };
        offer = e.offer;
        works = λ frame. works_by e.refused a old.at (acting frame e.refused p.made (a.lends ++ more) a.q.unique e.said sent) new.at _ e.concluded.said e.concluded.said_is (record {
          ticket = ticket;
          begun = at;
          begins = b;
          end = p.end;
          script = e.script;
          more = more;
          concluded = e.concluded;
          known = known;
          folders_are = refl;
        });
      }

  by_refusal : (refused : Option Place) (a : Attempt) (errno : ℤ) (said : ReplyBody) (world world' : W) (turn : Turn) → IsSaid refused (Failed errno) said → rules.table.begins world a.q.unique a.want (Refused errno) world' → Says a.lends a.q.unique said world' turn world'
      → WorksOff rules.table rules.settings refused a world turn world'
  by_refusal None a errno said world world' turn is b says = inl (record { errno = errno; begins = b; says = subst (λ (body : ReplyBody). Says a.lends a.q.unique body world' turn world') is says })
  by_refusal (Some AtBegin) a errno said world world' turn is b says = absurd is
  by_refusal (Some AtScript) a errno said world world' turn is b says = absurd is
  by_refusal (Some AtListing) a errno said world world' turn is b says = absurd is
  by_refusal (Some AtReply) a errno said world world' turn is b says = absurd is.0

  -- the table refuses it
  pub table_refused : (a : Attempt) (errno : ℤ) (old : Environment W L C D) (link : L) (at : W) (sent : Sent) → rules.table.begins old.at a.q.unique a.want (Refused errno) at
      → IsAnswered rules.sends (refusal a.q.unique errno) old.link sent link
      → RunsOut rules does a old sent (around link old.served at)
  table_refused a errno old link at sent b w = record {
    refused = w.refused;
    made = [];
    more = [];
    said = w.said;
    draws = record { makes = refl; keeps = refl };
    offer = w.offer;
    works = λ frame. by_refusal w.refused a errno w.said old.at at (acting frame w.refused [] (a.lends ++ []) a.q.unique w.said sent) w.said_is b (record { offers = refl; no_call = refl; folders_are = append-nil a.lends; same = refl });
  }

  -- memory is refused before it begins
  pub page_unbegun : (a : Attempt) (old : Environment W L C D) (link : L) (sent : Sent) → HasNames a.want → rules.sends old.link (reply_bytes (refusal a.q.unique ENOMEM)) sent link
      → RunsOut rules does a old sent (around link old.served old.at)
  page_unbegun a old link sent named s = record {
    refused = Some AtBegin;
    made = [];
    more = [];
    said = Failed ENOMEM;
    draws = record { makes = refl; keeps = refl };
    offer = s;
    works = λ frame. (named, record { offers = refl; no_call = refl; folders_are = append-nil a.lends; same = refl });
  }

  -- memory is refused for what an open folder is asked
  pub lacking : (q : Request) (fh : ℕ) (usage : FolderUse) (old : Environment W L C D) (dirs : D) (link : L) (sent : Sent) (folders : List FolderCall) → Chain does.keeps old.served.dirs folders dirs → LacksAnswer q.node fh usage folders
      → rules.sends old.link (reply_bytes (refusal q.unique ENOMEM)) sent link
      → UsesOut rules does q fh usage old sent (around link (record { calls = old.served.calls; dirs = dirs }) old.at)
  lacking q fh usage old dirs link sent folders chain (inl (page, lent)) s =
      inr (record {
        page = page;
        lent = dirs;
        lends = record { folders = folders; chain = chain; so = lent };
        runs = page_unbegun (attempt q (page_want q.node page.entries) folders page) (around old.link (record { calls = old.served.calls; dirs = dirs }) old.at) link sent tt s;
      })
  lacking q fh usage old dirs link sent folders chain (inr (meant, used, takes)) s =
      inl (record {
        meant = meant;
        uses = record { folders = folders; chain = chain; so = used };
        told = starved rules.sends (record { unique = q.unique; body = meant }) old.link link sent takes s;
        calls_are = refl;
        world_is = refl;
      })
