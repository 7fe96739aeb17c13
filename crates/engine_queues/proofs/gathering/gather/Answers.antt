use Rattle.std.proofs.Common.{◌≡◌, ℕ, suc, List, [], ◌∷◌, ◌++◌, length, map, refl, sym, ap, ◌∙◌, arith, length-append}
use Rattle.std.specs.List.{flat_map, range_with_len}
use Rattle.std.specs.Vec.Iter.{into_iter_items, into_iter_len}
use Rattle.std.proofs.lemmas.List.Elements.{All-same, All-rest}
use Rattle.crossbeam_channel.specs.Claims.{view, IsSeatAt}
use Rattle.crossbeam_channel.specs.Ends.{sends_on}
use Rattle.engine_queues.specs.Gathered.{numbers_of, puts_of, takings_of}
use Rattle.engine_queues.specs.declared.jobs.Hand.{Hand}
use Rattle.engine_queues.specs.declared.replies.ReplyLane.{ReplyLane}
use Rattle.engine_queues.specs.declared.passes.Passes.{Passes}
use Rattle.engine_queues.proofs.JobSteps as jobs
use Rattle.engine_queues.proofs.ReplySteps as queued_replies
use Rattle.engine_queues.proofs.Counting.{all_got, all_taken}
use Rattle.engine_queues.proofs.Putting.{all_accounts, all_whole, back_none, ended_one, ended_some, front_none, next_numbers, none_of, one_more, some_more}
use Rattle.engine_queues.proofs.gathering.gather.Goals as goal

pub loop-passes-init : goal.loop-passes-init
loop-passes-init g c =
    let e = c.into_iter-passes-iterator.ensures.into_iter_gives in
    let items = e.0 in
    let lens = e.1 in
    let r = c.requires in
    record {
      read = r.read;
      written = r.written;
      parts = (let p = r.reading.parts in omega arith);
      put = refl;
      took = front_none (view c.args.read).taken _ r.reading.takes_none ∙ ap (λ (ps : List (Passes g.row.J.Denot g.row.M.Denot)). flat_map (λ js. js) (takings_of ps)) items;
      gets = r.writing.gets;
      made = (let m = r.writing.made in let t = r.writing.told_none in omega arith);
      got = refl;
      known = front_none (view c.args.written).known _ r.writing.told_none ∙ ap (λ (ps : List (Passes g.row.J.Denot g.row.M.Denot)). puts_of ps) items;
      counts = ap (λ (l : List ℕ). l ++ map (λ js. length js) (takings_of (into_iter_items c.into_iter-passes-iterator.result))) r.empty ∙ ap (λ (ps : List (Passes g.row.J.Denot g.row.M.Denot)). map (λ js. length js) (takings_of ps)) items;
      numbers = ap (λ (ps : List (Passes g.row.J.Denot g.row.M.Denot)). numbers_of ps) items ∙ r.numbers ∙ (ap (range_with_len 0) (sym lens) ∙ ap (λ k. range_with_len k (into_iter_len c.into_iter-passes-iterator.result)) (sym r.writing.told_none));
      seats = All-same (λ (p : Passes g.row.J.Denot g.row.M.Denot). IsSeatAt (sends_on c.args.jobs.now) p.job_pass × IsSeatAt (sends_on c.args.replies.now) p.reply_pass) _ _ items r.seats;
      room = (let z : length c.args.taken.items ≡ 0 = ap length r.empty in let v = c.args.taken.ok.0 in let h = r.room in omega arith);
      few = (let f = r.few in omega arith);
      lens = lens ∙ (c.args.ended.ok.0 ∙ sym (ap length items));
    }

pub take_in-requires-clause-parts : goal.take_in-requires-clause-parts
take_in-requires-clause-parts g c = let i = c.loop-passes.invariant in let p = i.parts in let f = i.few in omega arith

pub loop-passes-preserved : goal.loop-passes-preserved
loop-passes-preserved g c =
    let i = c.loop-passes.invariant in
    let s = c.in-Some.ensures.steps in
    let t = c.take_in.ensures in
    let p = c.in-Some.passes in
    let old = view c.loop-passes.all in
    let new = view c.take_in.new.all in
    let was = view c.loop-passes.whole in
    let now = view c.take_in.new.whole in
    let rest = into_iter_items c.next.new.self in
    record {
      read = t.read;
      written = t.written;
      parts = (let a = ap (λ (v : Hand g.row.J.Denot). v.parts) t.both in let b = p.one_part in let d = i.parts in let l = s.1 in omega arith);
      put = ap (λ (v : Hand g.row.J.Denot). v.put) t.both ∙ (back_none old.put (view p.job_pass).put p.puts_none ∙ i.put);
      took = ap (λ (v : Hand g.row.J.Denot). v.taken ++ flat_map (λ js. js) (takings_of rest)) t.both
          ∙ some_more old.taken (view p.job_pass).taken (takings_of rest) _ (ap (λ (ps : List (Passes g.row.J.Denot g.row.M.Denot)). old.taken ++ flat_map (λ js. js) (takings_of ps)) (sym s.0) ∙ i.took);
      gets = ap (λ (v : ReplyLane g.row.M.Denot). v.gets) t.told ∙ i.gets;
      made = (let a = ap (λ (v : ReplyLane g.row.M.Denot). v.made) t.told in let b = ap (λ (v : ReplyLane g.row.M.Denot). length v.known) t.told in let k = length-append was.known ((view p.reply_pass).put ∷ []) in let d = i.made in let l = s.1 in omega arith);
      got = ap (λ (v : ReplyLane g.row.M.Denot). v.got) t.told ∙ i.got;
      known = ap (λ (v : ReplyLane g.row.M.Denot). v.known ++ puts_of rest) t.told
          ∙ one_more was.known (view p.reply_pass).put (puts_of rest) _ (ap (λ (ps : List (Passes g.row.J.Denot g.row.M.Denot)). was.known ++ puts_of ps) (sym s.0) ∙ i.known);
      counts = ap (λ (l : List ℕ). l ++ map (λ js. length js) (takings_of rest)) c.push_reserved.ensures.items
          ∙ (ap (λ (n : ℕ). (c.loop-passes.taken.items ++ n ∷ []) ++ map (λ js. length js) (takings_of rest)) t.count
          ∙ one_more c.loop-passes.taken.items (length (view p.job_pass).taken) (map (λ js. length js) (takings_of rest)) _ (ap (λ (ps : List (Passes g.row.J.Denot g.row.M.Denot)). c.loop-passes.taken.items ++ map (λ js. length js) (takings_of ps)) (sym s.0) ∙ i.counts));
      numbers = next_numbers p.number (numbers_of rest) (length was.known) (length now.known) (into_iter_len c.loop-passes.passes-iterator) (into_iter_len c.next.new.self) (ap (λ (ps : List (Passes g.row.J.Denot g.row.M.Denot)). numbers_of ps) (sym s.0) ∙ i.numbers)
          (let l = s.1 in omega arith) (ap (λ (v : ReplyLane g.row.M.Denot). length v.known) t.told ∙ length-append was.known ((view p.reply_pass).put ∷ []));
      seats = All-rest (λ (p : Passes g.row.J.Denot g.row.M.Denot). IsSeatAt (sends_on c.args.jobs.now) p.job_pass × IsSeatAt (sends_on c.args.replies.now) p.reply_pass) p rest _ s.0 i.seats;
      room = (let n = c.push_reserved.ensures.len in let k = c.push_reserved.ensures.capacity in let h = i.room in let l = s.1 in omega arith);
      few = (let f = i.few in let l = s.1 in omega arith);
      lens = (let n : length (into_iter_items c.loop-passes.passes-iterator) ≡ suc (length rest) = ap length s.0 in let l = s.1 in let d = i.lens in omega arith);
    }

pub learn_as-requires-clause-rule : goal.learn_as-requires-clause-rule
learn_as-requires-clause-rule g c = jobs.learns _ _ (let p = c.loop-passes.invariant.parts in let s = c.in-None.ensures.steps in omega arith)

pub learn_as-requires-2-clause-rule : goal.learn_as-requires-2-clause-rule
learn_as-requires-2-clause-rule g c = queued_replies.learns _ _ c.loop-passes.invariant.gets (let m = c.loop-passes.invariant.made in let s = c.in-None.ensures.steps in omega arith)

pub returns-clause-jobs : goal.returns-clause-jobs
returns-clause-jobs g c =
    let i = c.loop-passes.invariant in
    let j = c.learn_as.ensures.rule in
    let e : length (into_iter_items c.loop-passes.passes-iterator) ≡ 0 = (let s = c.in-None.ensures.steps in let l = i.lens in omega arith) in
    let none : length (takings_of (into_iter_items c.loop-passes.passes-iterator)) ≡ 0 = ap (λ (ps : List (Passes g.row.J.Denot g.row.M.Denot)). length (takings_of ps)) (none_of _ e) in
    all_taken _ _ j.0 c.requires.all_taken (all_accounts _ _ _ _ _ i.put (ended_some _ _ _ none i.took) j.1)

pub returns-clause-replies : goal.returns-clause-replies
returns-clause-replies g c =
    let i = c.loop-passes.invariant in
    let j = c.learn_as-2.ensures.rule in
    let e : length (into_iter_items c.loop-passes.passes-iterator) ≡ 0 = (let s = c.in-None.ensures.steps in let l = i.lens in omega arith) in
    let none : length (puts_of (into_iter_items c.loop-passes.passes-iterator)) ≡ 0 = ap (λ (ps : List (Passes g.row.J.Denot g.row.M.Denot)). length (puts_of ps)) (none_of _ e) in
    all_got _ _ j.0 c.requires.all_got (all_whole _ _ _ _ _ (ended_one _ _ _ none i.known) i.got j.1)
