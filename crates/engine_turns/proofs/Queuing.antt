-- One more job.
use Rattle.std.proofs.Common.{◌≡◌, ℕ, List, [], ◌∷◌, ◌++◌, Option, Some, None, inl, inr, refl, sym, ap, ◌∙◌, subst, append_assoc, append-nil}
use Rattle.wire.specs.Requests.{IsFramed}
use Rattle.engine.specs.declared.ends.SessionEnd.{SessionEnd}
use Rattle.engine.specs.declared.ends.SessionEnd.TheVariants as ends
use Rattle.engine_turns.specs.Verdicts.{EndsSession, IsVerdict, Progress, Queued, Queueing, Queues, QueuesAll, Stops, Tells}
use Rattle.engine_turns.specs.Shown.{queued_of, shown}
use Rattle.engine_turns.specs.declared.job.Job.{Job}

pub queued_snoc : (js : List Job) (j : Job) → queued_of (js ++ j ∷ []) ≡ queued_of js ++ shown j ∷ []
queued_snoc [] j = refl
queued_snoc (x ∷ js) j = ap (λ l. shown x ∷ l) (queued_snoc js j)

pub nothing_queued : (old : Progress) → Queueing old old
nothing_queued old = record { done = []; queued = sym (append-nil old.put); onwards = λ jobs rest now q. q; tells = record { last_job_is = refl; handed_back_is = refl }; unkept_is = refl }

tells_on : (old now new : Progress) → Tells now old.last_job old.handed_back → Tells new now.last_job now.handed_back → Tells new old.last_job old.handed_back
tells_on old now new t s = record { last_job_is = s.last_job_is ∙ t.last_job_is; handed_back_is = s.handed_back_is ∙ t.handed_back_is }

pub told_same : {old : Progress} → Tells old old.last_job old.handed_back
told_same = record { last_job_is = refl; handed_back_is = refl }

-- what was reported before is still reported
stops_on : (rest : List ℕ) (old now : Progress) (end : Option SessionEnd) (new : Progress) → Tells now old.last_job old.handed_back → Stops rest now end new → Stops rest old end new
stops_on rest old now None new t s = (s.0, s.1, tells_on old now new t s.2)
stops_on rest old now (Some (ends.Closed len)) new t s = s
stops_on rest old now (Some ends.Destroyed) new t s = (s.0, s.1, s.2, record { last_job_is = s.3.last_job_is; handed_back_is = s.3.handed_back_is ∙ t.handed_back_is })
stops_on rest old now (Some (ends.BadLength len)) new t s = (s.0, s.1, tells_on old now new t s.2)
stops_on rest old now (Some ends.LinkBroken) new t s = s
stops_on rest old now (Some ends.Memory) new t (inl s) = inl (record { len = s.len; whole = s.whole; kept_is = s.kept_is; tells = tells_on old now new t s.tells })
stops_on rest old now (Some ends.Memory) new t (inr s) = inr (record { frame = s.frame; front = s.front; framed = s.framed; other = s.other; tells = record { last_job_is = s.tells.last_job_is ∙ t.last_job_is; handed_back_is = s.tells.handed_back_is } })
stops_on rest old now (Some ends.NoWorkers) new t s = s

module _ (old : Progress) where
  pub one_queued : (now new : Progress) (frame : List ℕ) → Queueing old now → now.kept ≡ frame ++ new.kept → IsFramed frame → (EndsSession now.agreed frame → ⊥) → IsVerdict now.agreed frame new.agreed
      → new.put ≡ now.put ++ record { agreed = now.agreed; frame = frame } ∷ [] → Tells new now.last_job now.handed_back → new.unkept ≡ now.unkept → Queueing old new
  one_queued now new frame q front framed other verdict more same unkept =
      let job : Queued = record { agreed = now.agreed; frame = frame } in
      record {
        done = q.done ++ job ∷ [];
        queued = more ∙ (ap (λ (l : List Queued). l ++ job ∷ []) q.queued ∙ append_assoc old.put q.done (job ∷ []));
        onwards = λ jobs rest then' qs.
            subst (λ (l : List Queued). Queues old.kept old.agreed l rest then') (sym (append_assoc q.done (job ∷ []) jobs)) (q.onwards (job ∷ jobs) rest then' (refl, framed, other, (new.kept, new.agreed, front, verdict, qs)));
        tells = tells_on old now new q.tells same;
        unkept_is = unkept ∙ q.unkept_is;
      }

  -- nothing more is queued
  pub all_queued : (now new : Progress) (end : Option SessionEnd) → Queueing old now → new.put ≡ now.put → new.agreed ≡ now.agreed → new.unkept ≡ now.unkept → Stops now.kept now end new → QueuesAll old end new
  all_queued now new end q put agreed unkept stops = record {
    jobs = q.done;
    rest = now.kept;
    queued = put ∙ q.queued;
    queues = subst (λ (l : List Queued). Queues old.kept old.agreed l now.kept new.agreed) (append-nil q.done) (q.onwards [] now.kept new.agreed (refl, agreed));
    stops = stops_on now.kept old now end new q.tells stops;
    unkept_is = unkept ∙ q.unkept_is;
  }
