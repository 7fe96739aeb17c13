use Rattle.std.proofs.Common.{◌≡◌, ℕ, Bool, List, Option, Some, None, Err, [], ◌∷◌, drop, take, inl, inr, ap₂, refl, sym, ap, ◌∙◌, ◌++◌, subst}
use Rattle.std.specs.Option.{option_map}
use Rattle.wire.specs.Stream.{Cutting}
use Rattle.engine.specs.declared.ends.SessionEnd.TheVariants as ends
use Rattle.engine_turns.specs.declared.job.Job.{Job}
use Rattle.engine_turns.specs.Shown.{progress, shown}
use Rattle.engine_turns.specs.Verdicts.{EndsSession, IsVerdict, Queued}
use Rattle.engine_turns.specs.declared.reader.TheConstants.{GAP}
use Rattle.engine_turns.proofs.Receiving.{stopped_after}
use Rattle.engine_turns.proofs.Queuing.{all_queued, nothing_queued, one_queued, told_same}
use Rattle.engine_turns.proofs.reader.Reader.queue_all.Goals as goal

shown_as : (job : Job) (agreed : Bool) (frame : List ℕ) → job.agreed ≡ agreed → job.frame.items ≡ frame → shown job ≡ record { agreed = agreed; frame = frame }
shown_as job agreed frame a f = ap₂ (λ (b : Bool) (bytes : List ℕ). record { agreed = b; frame = bytes }) a f

-- another one, shown as the same, does not end the session
going_on : (one other : Queued) → one ≡ other → (EndsSession one.agreed one.frame → ⊥) → EndsSession other.agreed other.frame → ⊥
going_on one other is not_over = subst (λ (q : Queued). EndsSession q.agreed q.frame → ⊥) is not_over

pub loop-frame-init : goal.loop-frame-init
loop-frame-init g c = record { so_far = nothing_queued _; queue = refl; parts = refl }

pub returns-in-Ok-None-clause-all : goal.returns-in-Ok-None-clause-all
returns-in-Ok-None-clause-all g c =
    let none = rw c.in-Ok-None.field-0-is at c.in-Ok-None.ensures.none in
    all_queued (progress c.args.self.now) (progress c.loop-frame.self) _ None c.loop-frame.invariant.so_far refl refl refl (ap (λ (k : Cutting). k.kept) none.1, none.0, told_same)

pub returns-then-ends_session-clause-all : goal.returns-then-ends_session-clause-all
returns-then-ends_session-clause-all g c =
    let l = c.loop-frame.self in
    let frame = rw c.in-Ok-Some.field-0-is at c.in-Ok-Some.ensures.frame in
    let job = c.new-job.ensures in
    let is = shown_as c.new-job.result l.agreed c.in-Ok-Some.frame.items job.1 (ap (λ v. v.items) job.2) in
    all_queued (progress c.args.self.now) (progress l) _ (Some ends.Destroyed) c.loop-frame.invariant.so_far refl refl refl (
      c.in-Ok-Some.frame.items,
      frame.front,
      subst (λ (q : Queued). EndsSession q.agreed q.frame) is (c.ends_session.ensures.yes c.if-ends_session.true),
      record { last_job_is = ap (λ (q : Queued). Some q) is; handed_back_is = refl },
    )

-- it does not end the session
pub returns-then-not-queue-clause-all : goal.returns-then-not-queue-clause-all
returns-then-not-queue-clause-all g c =
    let l = c.loop-frame.self in
    let n = c.queue.new.self in
    let no = c.queue.ensures.no c.if-not-queue.true in
    let items = c.in-Ok-Some.frame.items in
    let frame = rw c.in-Ok-Some.field-0-is at c.in-Ok-Some.ensures.frame in
    let job = c.new-job.ensures in
    let is = shown_as c.new-job.result l.agreed items job.1 (ap (λ v. v.items) job.2) in
    let other : EndsSession l.agreed items → ⊥ = going_on (shown c.new-job.result) (record { agreed = l.agreed; frame = items }) is (c.ends_session.ensures.no c.if-ends_session.false) in
    all_queued (progress c.args.self.now) (progress l) (progress n) (Some ends.Memory) c.loop-frame.invariant.so_far no.0 no.1
    (ap₂ (λ (k : ℕ) (bytes : List ℕ). take k (drop GAP bytes)) c.queue.ensures.room.1 (ap (λ v. v.items) c.queue.ensures.room.0))
    (inr (record {
      frame = items;
      front = frame.front ∙ ap (λ (k : Cutting). items ++ k.kept) (sym c.queue.ensures.cutter);
      framed = frame.framed;
      other = subst (λ (b : Bool). EndsSession b items → ⊥) (sym no.1) other;
      tells = record {
        last_job_is = ap (λ (j : Option Job). option_map shown j) c.queue.ensures.last_job;
        handed_back_is = no.2 ∙ (ap (λ (q : Queued). Some q) is ∙ ap (λ (b : Bool). Some (record { agreed = b; frame = items })) (sym no.1));
      };
    }))

pub loop-frame-preserved : goal.loop-frame-preserved
loop-frame-preserved g c =
    let l = c.loop-frame.self in
    let n = c.queue.new.self in
    let frame = rw c.in-Ok-Some.field-0-is at c.in-Ok-Some.ensures.frame in
    let yes = c.queue.ensures.yes c.if-not-queue.false in
    let room = c.queue.ensures.room in
    let items = c.in-Ok-Some.frame.items in
    let job = c.new-job.ensures in
    let is = shown_as c.new-job.result l.agreed items job.1 (ap (λ v. v.items) job.2) in
    record {
      so_far = one_queued (progress c.args.self.now) (progress l) (progress n) items c.loop-frame.invariant.so_far
          (frame.front ∙ ap (λ (k : Cutting). items ++ k.kept) (sym c.queue.ensures.cutter)) frame.framed
          (going_on (shown c.new-job.result) (record { agreed = l.agreed; frame = items }) is (c.ends_session.ensures.no c.if-ends_session.false))
          (subst (λ (q : Queued). IsVerdict q.agreed q.frame n.agreed) is yes.1) (yes.0 ∙ ap (λ (q : Queued). (progress l).put ++ q ∷ []) is)
          (record { last_job_is = ap (λ (j : Option Job). option_map shown j) c.queue.ensures.last_job; handed_back_is = ap (λ (j : Option Job). option_map shown j) yes.2 })
          (ap₂ (λ (k : ℕ) (bytes : List ℕ). take k (drop GAP bytes)) room.1 (ap (λ v. v.items) room.0));
      queue = c.queue.ensures.queue ∙ c.loop-frame.invariant.queue;
      parts = c.queue.ensures.parts ∙ c.loop-frame.invariant.parts;
    }

pub returns-in-Err-BadLength-clause-all : goal.returns-in-Err-BadLength-clause-all
returns-in-Err-BadLength-clause-all g c =
    let arm = c.in-Err-BadLength in
    let bad = ap Err arm.field-0-is in
    rw arm.len-is (all_queued (progress c.args.self.now) (progress c.loop-frame.self) _ (Some (ends.BadLength arm.len)) c.loop-frame.invariant.so_far refl refl refl (ap (λ (k : Cutting). k.kept) (arm.ensures.for_good arm.len bad), (arm.ensures.bad arm.len).0 bad, told_same))

pub returns-in-Err-Memory-clause-all : goal.returns-in-Err-Memory-clause-all
returns-in-Err-Memory-clause-all g c =
    let arm = c.in-Err-Memory in
    let lacks = ap Err arm.field-0-is in
    let asked = arm.ensures.asked lacks in
    all_queued (progress c.args.self.now) (progress c.loop-frame.self) _ (Some ends.Memory) c.loop-frame.invariant.so_far refl refl refl
    (inl (record { len = asked.0; whole = asked.1; kept_is = ap (λ (k : Cutting). k.kept) (arm.ensures.memory lacks); tells = told_same }))

-- it may be stopped now
pub invariant_of-self-in-Err-1-clause-stopped_by : goal.invariant_of-self-in-Err-1-clause-stopped_by
invariant_of-self-in-Err-1-clause-stopped_by g c =
    let e = c.next_frame.ensures in
    stopped_after (λ f. f.items) c.loop-frame.self.cutter c.next_frame.new.cutter c.next_frame.result e.frame e.none e.bad e.for_good e.memory c.loop-frame.self.stopped_by

pub invariant_of-self-else-ends_session : goal.invariant_of-self-else-ends_session
invariant_of-self-else-ends_session g c =
    let l = c.loop-frame.self in
    let e = c.next_frame.ensures in
    record {
      within = l.within;
      room_len = l.room_len;
      stopped_by = stopped_after (λ f. f.items) l.cutter c.next_frame.new.cutter c.next_frame.result e.frame e.none e.bad e.for_good e.memory l.stopped_by;
      seated = l.seated;
      some_part = l.some_part;
      takes_none = l.takes_none;
      counted = l.counted;
      numbered = l.numbered;
    }
