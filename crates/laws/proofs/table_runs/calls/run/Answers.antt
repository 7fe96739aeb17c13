use Rattle.std.proofs.Common.{ℕ, ◌≡◌, ◌++◌, ◌∷◌, List, [], append-nil, append_assoc, ap, drop, length, length-append, subst, sym, ◌∙◌, refl, arith, rules}
use Rattle.std.proofs.Math.Seq.{drop-length}
use Rattle.std.proofs.lemmas.Grind.{common_steps}
use Rattle.std.specs.Vec.Iter.{into_iter_items}
use Rattle.table_steps.specs.Kept.{world_of}
use Rattle.table.proofs.Gaining.{gains_in_all, gains_same}
use Rattle.laws.specs.declared.table_runs.calls.TableCall.{TableCall}
use Rattle.laws.specs.declared.table_runs.calls.CallResult.{CallResult}
use Rattle.laws.proofs.Running.{HasRun, no_run, run_more, run_refused, runs_first, runs_length, told_more, told_whole}
use Rattle.laws.proofs.table_runs.calls.run.Goals as goal

nothing_left : (calls : List TableCall) → length calls ≡ 0 → calls ≡ []
nothing_left [] none = refl
nothing_left (call ∷ calls) none = absurd (omega arith)

pub returns-in_err-make-clause-runs : goal.returns-in_err-make-clause-runs
returns-in_err-make-clause-runs g c =
    let run = c.loop-next.invariant.run in
    let ts = drop (length c.args.told.now.items) c.loop-next.told.items in
    let after = run_refused (world_of c.args.table.now) c.args.pending.now c.args.share.now c.loop-next.yielded ts (world_of c.loop-next.table) c.loop-next.pending c.loop-next.share (world_of c.make.new.table) c.make.new.pending c.make.new.share
    run c.in_err-make.ensures.refused c.make.ensures.gains in
    runs_first (world_of c.args.table.now) c.args.pending.now c.loop-next.yielded ts (world_of c.make.new.table) c.make.new.pending c.args.calls.items (into_iter_items c.loop-next.next-iterator) c.loop-next.invariant.calls after.runs

pub returns-in_err-make-clause-current : goal.returns-in_err-make-clause-current
returns-in_err-make-clause-current g c id start = c.make.ensures.current id (c.loop-next.invariant.run.current id start)

pub returns-in_err-make-clause-gains : goal.returns-in_err-make-clause-gains
returns-in_err-make-clause-gains g c =
    let run = c.loop-next.invariant.run in
    let ts = drop (length c.args.told.now.items) c.loop-next.told.items in
    (run_refused (world_of c.args.table.now) c.args.pending.now c.args.share.now c.loop-next.yielded ts (world_of c.loop-next.table) c.loop-next.pending c.loop-next.share (world_of c.make.new.table) c.make.new.pending c.make.new.share
    run c.in_err-make.ensures.refused c.make.ensures.gains).gains

pub loop-next-preserved : goal.loop-next-preserved
loop-next-preserved g c =
    let o = c.args.told.now.items in
    let u = c.loop-next.told.items in
    let v = c.push_reserved.new.self.items in
    let t = c.in_ok-make.field-0 in
    let steps : into_iter_items c.loop-next.next-iterator ≡ c.in-Some.next ∷ into_iter_items c.next.new.self = c.in-Some.ensures.steps.0 in
    let gone = c.in-Some.ensures.steps.1 in
    let was = c.loop-next.invariant.left in
    let room = c.loop-next.invariant.room in
    let made = run_more (world_of c.args.table.now) c.args.pending.now c.args.share.now c.loop-next.yielded (drop (length o) u) (world_of c.loop-next.table) c.loop-next.pending c.loop-next.share c.in-Some.next t (world_of c.make.new.table) c.make.new.pending c.make.new.share
    c.loop-next.invariant.run c.in_ok-make.ensures.step c.make.ensures.current c.make.ensures.gains in
    record {
      run = subst (λ ts. HasRun (world_of c.args.table.now) c.args.pending.now c.args.share.now (c.loop-next.yielded ++ c.in-Some.next ∷ []) ts (world_of c.make.new.table) c.make.new.pending c.make.new.share) (sym (told_more o u v t c.loop-next.invariant.told c.push_reserved.ensures.items)) made;
      told = told_whole o u v t c.loop-next.invariant.told c.push_reserved.ensures.items;
      calls = c.loop-next.invariant.calls ∙ (ap (λ calls. c.loop-next.yielded ++ calls) steps ∙ sym (append_assoc c.loop-next.yielded (c.in-Some.next ∷ []) (into_iter_items c.next.new.self)));
      left = let short = ap {B = ℕ} length steps in omega (arith, short, gone, was);
      room = omega (arith, gone, room, c.push_reserved.ensures.len, c.push_reserved.ensures.capacity);
    }

pub returns-clause-runs : goal.returns-clause-runs
returns-clause-runs g c =
    let ts = drop (length c.args.told.now.items) c.loop-next.told.items in
    runs_first (world_of c.args.table.now) c.args.pending.now c.loop-next.yielded ts (world_of c.loop-next.table) c.loop-next.pending c.args.calls.items (into_iter_items c.loop-next.next-iterator) c.loop-next.invariant.calls c.loop-next.invariant.run.runs

pub returns-clause-all : goal.returns-clause-all
returns-clause-all g c =
    let o = c.args.told.now.items in
    let ts = drop (length o) c.loop-next.told.items in
    let none = c.in-None.ensures.steps in
    let empty : into_iter_items c.loop-next.next-iterator ≡ [] = nothing_left (into_iter_items c.loop-next.next-iterator) (c.loop-next.invariant.left ∙ none.0) in
    let all = c.loop-next.invariant.calls ∙ (ap (λ calls. c.loop-next.yielded ++ calls) empty ∙ append-nil c.loop-next.yielded) in
    let many = runs_length (world_of c.args.table.now) c.args.pending.now c.loop-next.yielded ts (world_of c.loop-next.table) c.loop-next.pending c.loop-next.invariant.run.runs in
    omega (arith, ap {B = ℕ} length c.loop-next.invariant.told, length-append o ts, ap {B = ℕ} length all, many)

pub returns-in_err-reserve-clause-gains : goal.returns-in_err-reserve-clause-gains
returns-in_err-reserve-clause-gains g c =
    let w = world_of c.args.table.now in
    gains_in_all w w c.args.share.now c.args.share.now (gains_same w w c.args.share.now c.args.share.now c.attest.ensures refl refl)

pub loop-next-init : goal.loop-next-init
loop-next-init g c =
    let o = c.args.told.now.items in
    let same : c.reserve.new.self.items ≡ o = search rules in
    let none : drop (length o) c.reserve.new.self.items ≡ [] = ap (drop (length o)) same ∙ drop-length o in
    record {
      run = no_run (world_of c.args.table.now) c.args.pending.now c.args.share.now (drop (length o) c.reserve.new.self.items) c.attest.ensures none;
      told = same ∙ (sym (append-nil o) ∙ ap (λ (l : List CallResult). o ++ l) (sym none));
      calls = search rules;
      left = search rules;
      room = grind (arith, common_steps);
    }
