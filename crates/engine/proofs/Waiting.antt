-- A request that waited for others.
use Rattle.std.proofs.Common.{ℕ, ◌≡◌, List, sym, subst}
use Rattle.errno.specs.declared.TheConstants.{ENOMEM}
use Rattle.table_requests.specs.declared.data.Want.{Want}
use Rattle.handles.specs.Calls.{FolderCall}
use Rattle.ops.specs.Intents.{HasName, want_of}
use Rattle.ops.specs.Pages.{Paged}
use Rattle.terms.specs.declared.settings.Settings.{Settings}
use Rattle.ops.specs.declared.wanted.Wanted.{Wanted}
use Rattle.ops.specs.declared.wanted.Wanted.TheVariants as wanted
use Rattle.wire.specs.Written.{reply_bytes}
use Rattle.wire.specs.declared.request.Request.{Request}
use Rattle.engine.specs.declared.links.Sent.{Sent}
use Rattle.engine.specs.declared.served.Served.{Served}
use Rattle.engine.specs.Reference.{Attempt, HasNames, attempt}
use Rattle.engine.specs.Replies.{refusal}
use Rattle.engine.specs.Serving.{Behaviour, Environment, around}
use Rattle.engine.specs.Tables.{Table}
use Rattle.engine.specs.Walks.{Rules, RunsOut, IsUntouched, by_rules}
use Rattle.engine.proofs.Turns.{page_unbegun}

-- a want whose names must be copied
pub kept_names : (w : Wanted) → HasName w → HasNames (want_of w)
kept_names (wanted.Node number handle) h = h
kept_names (wanted.Open number access) h = h
kept_names (wanted.Release number fh) h = h
kept_names (wanted.Name parent name) h = tt
kept_names (wanted.Remove parent name may_hide) h = tt
kept_names (wanted.Move parent name new_parent new_name keep) h = tt
kept_names (wanted.Exchange parent name new_parent new_name) h = tt
kept_names (wanted.Link number parent name) h = tt
kept_names (wanted.Create parent name access) h = tt

module _ {W L C D : Type 0} (rules : Rules W L) (does : Behaviour C D) where
  -- memory was refused when it was to begin again
  pub unbegun_after : (a : Attempt) (old mid : Environment W L C D) (link : L) (sent : Sent) → HasNames a.want → IsUntouched old mid
      → rules.sends mid.link (reply_bytes (refusal a.q.unique ENOMEM)) sent link → RunsOut rules does a old sent (around link mid.served mid.at)
  unbegun_after a old mid link sent named same s =
      let at_once = page_unbegun rules does a old link sent named (subst (λ (l : L). rules.sends l (reply_bytes (refusal a.q.unique ENOMEM)) sent link) same.link_is s) in
      subst (λ (c : Served C D). RunsOut rules does a old sent (around link c mid.at)) (sym same.served_is)
      (subst (λ (w : W). RunsOut rules does a old sent (around link old.served w)) (sym same.world_is) at_once)

module _ {W L C D : Type 0} (table : Table W) (sends : L → List ℕ → Sent → L → Type 0) (does : Behaviour C D) where
  -- it has begun in the end
  pub runs_after : (settings now : Settings) (q : Request) (want w : Want) (lends : List FolderCall) (page : Paged) (old mid new : Environment W L C D) (sent : Sent) → now ≡ settings → w ≡ want → IsUntouched old mid
      → RunsOut (by_rules table now sends) does (attempt q w lends page) (around mid.link mid.served mid.at) sent new
      → RunsOut (by_rules table settings sends) does (attempt q want lends page) (around old.link old.served old.at) sent new
  runs_after settings now q want w lends page old mid new sent set wanted same r =
      let rules = by_rules table settings sends in
      let a = attempt q want lends page in
      let with_rules = subst (λ (n : Settings). RunsOut (by_rules table n sends) does (attempt q w lends page) (around mid.link mid.served mid.at) sent new) set r in
      let with_want = subst (λ (v : Want). RunsOut rules does (attempt q v lends page) (around mid.link mid.served mid.at) sent new) wanted with_rules in
      subst (λ (l : L). RunsOut rules does a (around l old.served old.at) sent new) same.link_is
      (subst (λ (c : Served C D). RunsOut rules does a (around mid.link c old.at) sent new) same.served_is
      (subst (λ (w : W). RunsOut rules does a (around mid.link mid.served w) sent new) same.world_is with_want))
