-- Extending what a worker has done.
use Rattle.std.proofs.Common.{◌≡◌, ◌∙◌, ◌++◌, ℕ, List, [], ◌∷◌, Option, Some, None, refl, sym, ap, ap₂, subst, subst₂}
use Rattle.std.proofs.Math.Logic.{∥∥₁_map}
use mathlib.Core.Option.{some}
use lib.ListN.{get_elem?}
use Rattle.crossbeam_channel.specs.Claims.{view}
use Rattle.ledger.specs.Shares.{Part}
use Rattle.table_steps.specs.Answers.{Settlement}
use Rattle.terms.specs.declared.settings.Settings.{Settings}
use Rattle.engine.proofs.Runs.{chain_append, chain_one}
use Rattle.engine.specs.Chain.{Chain}
use Rattle.engine.specs.Serving.{Behaviour}
use Rattle.engine_turns.specs.declared.job.Job.{Job}
use Rattle.engine_queues.specs.Jobs.{hand}
use Rattle.engine_queues.specs.Replies.{sender}
use Rattle.engine_queues.specs.declared.jobs.Hand.{Hand}
use Rattle.engine_queues.specs.declared.passes.Passes.{Passes}
use Rattle.engine_queues.specs.declared.replies.ReplyLane.{ReplyLane}
use Rattle.engine_turns.specs.TableCalls.{OnTable}
use Rattle.engine_turns.specs.Turns.{AnswersJob, Standing, Worked, outbox, standing, takes}
use Rattle.engine_turns.specs.declared.replies.JobReply.{JobReply}
use Rattle.engine_turns.specs.declared.working.Worker.{Worker}
use Rattle.engine_threads.specs.Beginning.{IsReadyWorker}
use Rattle.engine_threads.specs.Worked.{AnswersLast, AnswersOne, HasEnded, HasWorked, HasWorkedFrom, HasWorkedSo, Stand, WorksOn, WorksOne, beside, newcomer, stand, stand_of}

module _ {C D : Type 0} (does : Behaviour C D) (settings : Settings) (number : ℕ) where
  pub works_none : (old new : Stand C) → new ≡ old → WorksOn does settings number old new
  works_none old new same = record { settled = []; works = same }

  -- one more job, of a worker that got no reply back before or after it
  pub works_more : (settings' : Settings) (number' : ℕ) (from mid new : Stand C) (dirs dirs' : D) (one : Option Settlement) (back back' : ℕ) → settings' ≡ settings → number' ≡ number → back ≡ 0 → back' ≡ 0 → WorksOn does settings number from mid
      → Worked does settings' number' (standing mid.taken (outbox mid.put back) (beside mid dirs).means) one (standing new.taken (outbox new.put back') (beside new dirs').means) → WorksOn does settings number from new
  works_more settings' number' from mid new dirs dirs' one back back' s n b b' so next =
      let none_back = subst₂ (λ (x y : ℕ). Worked does settings' number' (standing mid.taken (outbox mid.put x) (beside mid dirs).means) one (standing new.taken (outbox new.put y) (beside new dirs').means)) b b' next in
      let here = subst₂ (λ (t : Settings) (k : ℕ). Worked does t k (beside mid dirs) one (beside new dirs')) s n none_back in
      record {
        settled = so.settled ++ one ∷ [];
        works = chain_append (WorksOne does settings number) from mid new so.settled (one ∷ []) so.works (chain_one (WorksOne does settings number) mid new one (record { dirs = dirs; dirs' = dirs'; worked = here }));
      }

  pub works_join : (settings' : Settings) (number' : ℕ) (from mid new : Stand C) → settings' ≡ settings → number' ≡ number → WorksOn does settings number from mid → WorksOn does settings' number' mid new → WorksOn does settings number from new
  works_join settings' number' from mid new s n so next =
      let on = subst₂ (λ (t : Settings) (k : ℕ). WorksOn does t k mid new) s n next in
      record { settled = so.settled ++ on.settled; works = chain_append (WorksOne does settings number) from mid new so.settled on.settled so.works on.works }

-- one value, under two names
pub one_value : {X : Type 0} (x y : X) (o : Option X) → o ≡ Some x → o ≡ Some y → x ≡ y
one_value x y o a b = let e : Some x ≡ Some y = sym a ∙ b in cc e

-- a job beside the queue is answered by a worker that got no reply back before or after it
pub answers_one : {C D : Type 0} (does : Behaviour C D) (settings : Settings) (number : ℕ) (job : Job) (old new : Stand C) (dirs dirs' : D) (one : Option Settlement) (back back' : ℕ) → back ≡ 0 → back' ≡ 0
    → AnswersJob does settings number job (standing old.taken (outbox old.put back) (beside old dirs).means) one (standing new.taken (outbox new.put back') (beside new dirs').means) → AnswersOne does settings number job old new
answers_one does settings number job old new dirs dirs' one back back' b b' it = record {
  settled = one;
  dirs = dirs;
  dirs' = dirs';
  answers = subst₂ (λ (x y : ℕ). AnswersJob does settings number job (standing old.taken (outbox old.put x) (beside old dirs).means) one (standing new.taken (outbox new.put y) (beside new dirs').means)) b b' it;
}

-- a worker that has found nothing to do stands as before
pub stand_same : {C : Type 0} (taken taken' : Hand Job) (put put' : ReplyLane JobReply) (calls calls' : C) (share share' : Part) (on_table on_table' : OnTable) → taken' ≡ taken → put' ≡ put → calls' ≡ calls → share' ≡ share → on_table' ≡ on_table
    → stand taken' put' calls' share' on_table' ≡ stand taken put calls share on_table
stand_same {C} taken taken' put put' calls calls' share share' on_table on_table' t p c s o =
    ap₂ (λ (h : Hand Job) (l : ReplyLane JobReply). stand h l calls' share' on_table') t p
    ∙ (ap₂ (λ (k : C) (h : Part). stand taken put k h on_table') c s ∙ ap (λ (x : OnTable). stand taken put calls share x) o)

module _ {C D : Type 0} (does : Behaviour C D) (settings : Option Settings) (given : List C) where
  -- a worker that has done nothing yet
  pub has_begun : (worker : Worker) (calls : C) (share : Part) (on_table : OnTable) → settings ≡ Some worker.session.settings → get_elem? given worker.number ≡ some calls → IsReadyWorker worker share on_table
      → ∥ HasWorkedSo does settings given worker calls share on_table ∥₁
  has_begun worker calls share on_table s f r = ∣ record {
    settings_are = s;
    first = calls;
    first_is = f;
    worked = record {
      share = share;
      share_is = r.share_is;
      works = works_none does worker.session.settings worker.number (newcomer worker.number calls share) (stand_of worker calls share on_table)
          (ap₂ (λ (h : Hand Job) (l : ReplyLane JobReply). stand h l calls share on_table) r.takes_none r.puts_none
          ∙ ap (λ (x : OnTable). stand (hand 1 [] []) (sender worker.number []) calls share x) r.idle_is);
    };
  } ∣₁

  -- some jobs more
  pub goes_on : (worker next : Worker) (calls calls' : C) (share share' : Part) (on_table on_table' : OnTable) → next.number ≡ worker.number → next.session.settings ≡ worker.session.settings
      → WorksOn does worker.session.settings worker.number (stand_of worker calls share on_table) (stand_of next calls' share' on_table')
      → ∥ HasWorkedSo does settings given worker calls share on_table ∥₁ → ∥ HasWorkedSo does settings given next calls' share' on_table' ∥₁
  goes_on worker next calls calls' share share' on_table on_table' n s more h = ∥∥₁_map h (λ (k : HasWorkedSo does settings given worker calls share on_table).
      let w = worker.session.settings in
      let whole : HasWorked does w worker.number k.first (stand_of next calls' share' on_table') = record {
        share = k.worked.share;
        share_is = k.worked.share_is;
        works = works_join does w worker.number w worker.number (newcomer worker.number k.first k.worked.share) (stand_of worker calls share on_table) (stand_of next calls' share' on_table') refl refl k.worked.works more;
      } in
      record {
        settings_are = k.settings_are ∙ ap (λ (t : Settings). Some t) (sym s);
        first = k.first;
        first_is = subst (λ (m : ℕ). get_elem? given m ≡ some k.first) (sym n) k.first_is;
        worked = subst₂ (λ (t : Settings) (m : ℕ). HasWorked does t m k.first (stand_of next calls' share' on_table')) (sym s) (sym n) whole;
      })

  -- and has ended, after it answered the last frame, if that was for it to do
  pub has_ended : (worker : Worker) (calls : C) (share : Part) (on_table : OnTable) (last_job : Option Job) (passes : Passes Job JobReply) (left : C) (share' : Part) (on_table' : OnTable) → passes.number ≡ worker.number
      → AnswersLast does worker.session.settings worker.number last_job (stand_of worker calls share on_table) (stand (view passes.job_pass) (view passes.reply_pass) left share' on_table')
      → ∥ HasWorkedSo does settings given worker calls share on_table ∥₁ → ∥ HasEnded does settings given last_job passes left share' on_table' ∥₁
  has_ended worker calls share on_table last_job passes left share' on_table' n last h = ∥∥₁_map h (λ (k : HasWorkedSo does settings given worker calls share on_table).
      let w = worker.session.settings in
      let whole : HasWorkedFrom does w worker.number k.first last_job passes left share' on_table' = record { before = stand_of worker calls share on_table; worked = k.worked; last = last } in
      record {
        of = w;
        settings_are = k.settings_are;
        first = k.first;
        first_is = subst (λ (m : ℕ). get_elem? given m ≡ some k.first) (sym n) k.first_is;
        worked = subst (λ (m : ℕ). HasWorkedFrom does w m k.first last_job passes left share' on_table') (sym n) whole;
      })

-- what a thread did has its own index
index_one : {C D : Type 0} (does : Behaviour C D) (settings : Settings) (from : ℕ) (job : Job) (old new : Standing C D) (settled : Option Settlement) → AnswersJob does settings from job old settled new → new.means.on_table.by ≡ old.means.on_table.by
index_one does settings from job old new settled a = ap (λ (o : OnTable). o.by) a.puts.on_table ∙ a.meets.gains.by_is

index_all : {C D : Type 0} (does : Behaviour C D) (settings : Settings) (from : ℕ) (old new : Stand C) (settled : List (Option Settlement)) → Chain (WorksOne does settings from) old settled new → new.on_table.by ≡ old.on_table.by
index_all {C} {D} does settings from old new [] chain = ap (λ (s : Stand C). s.on_table.by) chain
index_all {C} {D} does settings from old new (one ∷ settled) (mid, w, rest) =
    index_all does settings from mid new settled rest ∙ index_one does settings from w.worked.job (takes (beside old w.dirs) w.worked.job) (beside mid w.dirs') one w.worked.answers

index_last : {C D : Type 0} (does : Behaviour C D) (settings : Settings) (from : ℕ) (last_job : Option Job) (old new : Stand C) → AnswersLast does settings from last_job old new → new.on_table.by ≡ old.on_table.by
index_last {C} {D} does settings from None old new a = ap (λ (s : Stand C). s.on_table.by) a
index_last {C} {D} does settings from (Some job) old new a = index_one does settings from job (beside old a.dirs) (beside new a.dirs') a.settled a.answers

pub index_from : {C D : Type 0} (does : Behaviour C D) (settings : Settings) (number : ℕ) (first : C) (last_job : Option Job) (passes : Passes Job JobReply) (left : C) (share : Part) (on_table : OnTable) → HasWorkedFrom does settings number first last_job passes left share on_table → on_table.by ≡ number
index_from does settings number first last_job passes left share on_table w =
    index_last does settings number last_job w.before (stand (view passes.job_pass) (view passes.reply_pass) left share on_table) w.last
    ∙ index_all does settings number (newcomer number first w.worked.share) w.before w.worked.works.settled w.worked.works.works
