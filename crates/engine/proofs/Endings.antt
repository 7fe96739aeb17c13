-- How requests are concluded.
use Rattle.std.proofs.Common.{ℕ, ◌≡◌, Bool, true, false, List, [], ◌∷◌, ◌++◌, Option, Some, None, Ok, Err, unwrap_or, if◌then◌else◌, refl, sym, ap, subst}
use Rattle.std.specs.Borrow.{Bor}
use Rattle.errno.specs.declared.TheConstants.{EIO, ENOMEM}
use Rattle.backing.specs.declared.call.Child.{Child}
use Rattle.handles.specs.Listings.{are_lawful, IsMade, OpenFolder}
use Rattle.handles.specs.declared.listing.ListingFault.TheVariants.{Memory}
use Rattle.ops.specs.Ahead.{end_of, outcome_of, LooksAtEach}
use Rattle.ops.specs.Replies.{opened_reply, reply_to}
use Rattle.ops.specs.Pages.{Paged, no_page}
use Rattle.ops.specs.Scripts.{listed_end, plan_of, End, Follows, Made}
use Rattle.terms.specs.declared.settings.Settings.{Settings}
use Rattle.ops.specs.declared.findings.ScriptResult.{ScriptResult}
use Rattle.ops.specs.declared.findings.FoundFile.{FoundFile}
use Rattle.ops.specs.declared.findings.ScriptResult.TheVariants as findings
use Rattle.table_steps.specs.Answers.{Answer, Claim}
use Rattle.table_steps.specs.declared.data.Outcome.{Outcome}
use Rattle.table_steps.specs.declared.data.Outcome.TheVariants.{Done}
use Rattle.table_steps.specs.declared.data.Outcome.TheVariants as outcomes
use Rattle.wire.specs.Written.{reply_bytes}
use Rattle.wire.specs.declared.reply.Reply.{Reply}
use Rattle.wire.specs.declared.reply.ReplyBody.{ReplyBody}
use Rattle.wire.specs.declared.reply.ReplyBody.TheVariants.{Failed}
use Rattle.wire.specs.declared.request.Request.{Request}
use Rattle.engine.specs.declared.links.Sent.{Sent}
use Rattle.handles.specs.Calls.{FolderCall, Put}
use Rattle.engine.specs.Folders.{GivesUp, PutsListing}
use Rattle.engine.specs.Reference.{Begun, Place, AtBegin, AtScript, AtListing, AtReply, IsSaid, IsTold, Plays, Stores}
use Rattle.engine.specs.Replies.{refusal, TakesMemory}
use Rattle.engine.specs.Walks.{LinkAndTable, Rules, entries_found, listing_found, no_memory, page_of, Concludes, IsPlain, RepliesTaken}

-- a page, or none
pub paged : (page : Option (Bor Paged)) (empty : Bor Paged) → empty.now ≡ no_page → (unwrap_or page empty).now ≡ page_of page
paged None empty none = none
paged (Some page) empty none = refl

told : (refused : Option Place) (meant said : ReplyBody) → IsSaid refused meant said → IsTold refused meant said
told None meant said is = is
told (Some AtBegin) meant said is = absurd is
told (Some AtScript) meant said is = absurd is
told (Some AtListing) meant said is = absurd is
told (Some AtReply) meant said is = is

stored : (refused : Option Place) (meant said : ReplyBody) (node : ℕ) (finding : ScriptResult) (first : List FolderCall) (put : Option ℕ) → IsSaid refused meant said → PutsListing node finding first put → Stores refused node finding first put
stored None meant said node finding first put is p = p
stored (Some AtBegin) meant said node finding first put is p = absurd is
stored (Some AtScript) meant said node finding first put is p = absurd is
stored (Some AtListing) meant said node finding first put is p = absurd is
stored (Some AtReply) meant said node finding first put is p = p

plain : (node : ℕ) (finding : ScriptResult) → IsPlain finding → PutsListing node finding [] None
plain node (findings.Listed children) h = absurd h
plain node (findings.Looked founds) h = absurd h
plain node (findings.Error errno) h = (refl, refl)
plain node findings.Nothing h = (refl, refl)
plain node (findings.NewEntry found) h = (refl, refl)
plain node (findings.Attributes found) h = (refl, refl)
plain node (findings.NewFile found) h = (refl, refl)
plain node findings.Opening h = (refl, refl)
plain node (findings.Bytes bytes) h = (refl, refl)
plain node (findings.Written size) h = (refl, refl)
plain node (findings.Hid candidate) h = (refl, refl)
plain node (findings.Replaced candidate) h = (refl, refl)
plain node (findings.Unmoved candidate errno) h = (refl, refl)
plain node findings.Kept h = (refl, refl)

-- names that are not lawful, and names that are
pub lawless_end : (children : List Child) → are_lawful children ≡ false → end_of (findings.Error EIO) ≡ listed_end children
lawless_end children lawless = ap (λ (b : Bool). if b then listing_found children else record { outcome = outcomes.Failed; findings = findings.Error EIO }) (sym lawless)

pub lawful_end : (children : List Child) → are_lawful children ≡ true → listing_found children ≡ listed_end children
lawful_end children lawful = ap (λ (b : Bool). if b then listing_found children else record { outcome = outcomes.Failed; findings = findings.Error EIO }) (sym lawful)

abbrev ended : ScriptResult → End
ended finding = record { outcome = outcome_of finding; findings = finding }

plain_end : (finding : ScriptResult) → IsPlain finding → ended finding ≡ end_of finding
plain_end (findings.Listed children) h = absurd h
plain_end (findings.Looked founds) h = absurd h
plain_end (findings.Error errno) h = refl
plain_end findings.Nothing h = refl
plain_end (findings.NewEntry found) h = refl
plain_end (findings.Attributes found) h = refl
plain_end (findings.NewFile found) h = refl
plain_end findings.Opening h = refl
plain_end (findings.Bytes bytes) h = refl
plain_end (findings.Written size) h = refl
plain_end (findings.Hid candidate) h = refl
plain_end (findings.Replaced candidate) h = refl
plain_end (findings.Unmoved candidate errno) h = refl
plain_end findings.Kept h = refl

pub none_given_up : (taken : Bool) → GivesUp taken None []
none_given_up true = refl
none_given_up false = refl

played : (settings : Settings) (refused : Option Place) (meant said : ReplyBody) (q : Request) (ticket : Claim) (made : List Made) (end : End) → IsSaid refused meant said → Follows (plan_of settings q.caller q.operation ticket) made end → Plays settings refused q ticket made end
played settings None meant said q ticket made end is f = f
played settings (Some AtBegin) meant said q ticket made end is f = absurd is
played settings (Some AtScript) meant said q ticket made end is f = absurd is
played settings (Some AtListing) meant said q ticket made end is f = absurd is
played settings (Some AtReply) meant said q ticket made end is f = f

-- a reply for which memory was refused
pub starved_untaken : {L : Type 0} (sends : L → List ℕ → Sent → L → Type 0) (meant : Reply) (old new : L) (sent : Sent) → TakesMemory meant.body → sends old (reply_bytes (refusal meant.unique ENOMEM)) sent new → RepliesTaken sends meant old sent false new
starved_untaken sends meant old new sent takes s = record { told = record { refused = Some AtReply; said = Failed ENOMEM; said_is = (takes, refl); offer = s }; taken_is = refl }

module _ {W L : Type 0} (rules : Rules W L) where
  -- the script has made these calls and has this result
  pub concluded : (b : Begun) (made : List Made) (finding : ScriptResult) (outcome : Outcome) (put : Option ℕ) (first last : List FolderCall) (meant : ReplyBody) (answer : Answer) (old new : LinkAndTable L W) (finished : W) (sent : Sent) (taken : Bool)
      → Follows (plan_of rules.settings b.q.caller b.q.operation b.ticket) made (record { outcome = outcome; findings = finding })
      → rules.table.finishes old.world b.ticket.id outcome answer finished → meant ≡ reply_to rules.settings b.q.node b.page finding put answer
      → PutsListing b.q.node finding first put → GivesUp taken put last
      → RepliesTaken rules.sends (record { unique = b.q.unique; body = meant }) old.link sent taken new.link → rules.table.settles finished answer put taken new.world
      → Concludes rules b made (record { outcome = outcome; findings = finding }) (first ++ last) old sent new
  concluded b made finding outcome put first last meant answer old new finished sent taken follows finishes is puts gives r settles =
      let s = r.told in
      record {
        refused = s.refused;
        script = played rules.settings s.refused meant s.said b.q b.ticket made (record { outcome = outcome; findings = finding }) s.said_is follows;
        said = s.said;
        offer = s.offer;
        concluded = record {
          answer = answer;
          finished = finished;
          finishes = finishes;
          put = put;
          first = first;
          stores = stored s.refused meant s.said b.q.node finding first put s.said_is puts;
          said = s.said;
          said_is = subst (λ (body : ReplyBody). IsTold s.refused body s.said) is (told s.refused meant s.said s.said_is);
          offers = refl;
          settles = subst (λ (t : Bool). rules.table.settles finished answer put t new.world) r.taken_is settles;
          last = last;
          gives_up = subst (λ (t : Bool). GivesUp t put last) r.taken_is gives;
          folders_are = refl;
        };
      }

  pub concluded_plain : (b : Begun) (made : List Made) (finding : ScriptResult) (meant : ReplyBody) (answer : Answer) (old new : LinkAndTable L W) (finished : W) (sent : Sent) (taken : Bool) → IsPlain finding
      → Follows (plan_of rules.settings b.q.caller b.q.operation b.ticket) made (end_of finding)
      → rules.table.finishes old.world b.ticket.id (outcome_of finding) answer finished → meant ≡ reply_to rules.settings b.q.node b.page finding None answer
      → RepliesTaken rules.sends (record { unique = b.q.unique; body = meant }) old.link sent taken new.link → rules.table.settles finished answer None taken new.world
      → Concludes rules b made (end_of finding) [] old sent new
  concluded_plain b made finding meant answer old new finished sent taken h follows finishes is r settles =
      subst (λ (e : End). Concludes rules b made e [] old sent new) (plain_end finding h)
      (concluded b made finding (outcome_of finding) None [] [] meant answer old new finished sent taken
      (subst (λ (e : End). Follows (plan_of rules.settings b.q.caller b.q.operation b.ticket) made e) (sym (plain_end finding h)) follows) finishes is (plain b.q.node finding h) (none_given_up taken) r settles)

  -- ---- OPENDIR

  pub concluded_open : (b : Begun) (made : List Made) (children : List Child) (folder : OpenFolder) (put : Option ℕ) (last : List FolderCall) (meant : ReplyBody) (answer : Answer) (old new : LinkAndTable L W) (finished : W) (sent : Sent) (taken : Bool)
      → IsMade b.q.node children (Ok folder) → Follows (plan_of rules.settings b.q.caller b.q.operation b.ticket) made (listing_found children) → rules.table.finishes old.world b.ticket.id Done answer finished → meant ≡ opened_reply put → GivesUp taken put last
      → RepliesTaken rules.sends (record { unique = b.q.unique; body = meant }) old.link sent taken new.link → rules.table.settles finished answer put taken new.world
      → Concludes rules b made (listing_found children) (Put folder put ∷ last) old sent new
  concluded_open b made children folder put last meant answer old new finished sent taken is_made follows finishes is gives r settles =
      concluded b made (findings.Listed children) Done put (Put folder put ∷ []) last meant answer old new finished sent taken follows finishes is (folder, is_made, refl) gives r settles

  -- a listing for which memory was refused
  pub concluded_starved : (b : Begun) (made : List Made) (children : List Child) (answer : Answer) (old new : LinkAndTable L W) (finished : W) (sent : Sent)
      → IsMade b.q.node children (Err Memory) → Follows (plan_of rules.settings b.q.caller b.q.operation b.ticket) made (listing_found children) → rules.table.finishes old.world b.ticket.id Done answer finished → rules.sends old.link (reply_bytes (refusal b.q.unique ENOMEM)) sent new.link → rules.table.settles finished answer None false new.world
      → Concludes rules b made (listing_found children) [] old sent new
  concluded_starved b made children answer old new finished sent lawful follows finishes s settles = record {
    refused = Some AtListing;
    script = follows;
    said = Failed ENOMEM;
    offer = s;
    concluded = record {
      answer = answer;
      finished = finished;
      finishes = finishes;
      put = None;
      first = [];
      stores = (lawful, refl, refl);
      said = Failed ENOMEM;
      said_is = refl;
      offers = refl;
      settles = settles;
      last = [];
      gives_up = refl;
      folders_are = refl;
    };
  }

  -- ---- READDIRPLUS

  pub concluded_entries : (b : Begun) (made : List Made) (founds : List (Option FoundFile)) (meant : ReplyBody) (answer : Answer) (old new : LinkAndTable L W) (finished : W) (sent : Sent) (taken : Bool)
      → Follows (plan_of rules.settings b.q.caller b.q.operation b.ticket) made (entries_found founds) → rules.table.finishes old.world b.ticket.id (entries_found founds).outcome answer finished → meant ≡ reply_to rules.settings b.q.node b.page (findings.Looked founds) None answer
      → RepliesTaken rules.sends (record { unique = b.q.unique; body = meant }) old.link sent taken new.link → rules.table.settles finished answer None taken new.world
      → Concludes rules b made (entries_found founds) [] old sent new
  concluded_entries b made founds meant answer old new finished sent taken follows finishes is r settles =
      concluded b made (findings.Looked founds) (entries_found founds).outcome None [] [] meant answer old new finished sent taken follows finishes is (refl, refl) (none_given_up taken) r settles

  -- a script for which memory was refused
  pub concluded_short : (b : Begun) (answer : Answer) (old new : LinkAndTable L W) (finished : W) (sent : Sent)
      → LooksAtEach b.q.operation → rules.table.finishes old.world b.ticket.id no_memory.outcome answer finished → rules.sends old.link (reply_bytes (refusal b.q.unique ENOMEM)) sent new.link → rules.table.settles finished answer None false new.world
      → Concludes rules b [] no_memory [] old sent new
  concluded_short b answer old new finished sent looks finishes s settles = record {
    refused = Some AtScript;
    script = (looks, refl, refl);
    said = Failed ENOMEM;
    offer = s;
    concluded = record {
      answer = answer;
      finished = finished;
      finishes = finishes;
      put = None;
      first = [];
      stores = (refl, refl);
      said = Failed ENOMEM;
      said_is = refl;
      offers = refl;
      settles = settles;
      last = [];
      gives_up = refl;
      folders_are = refl;
    };
  }
