use Rattle.std.proofs.Common.{◌≡◌, ◌∙◌, ◌+◌, ◌++◌, ◌∷◌, [], ℕ, suc, length, ap, arith, length-append}
use Rattle.std.specs.Vec.Iter.{into_iter_items}
use Rattle.std.specs.List.{range_with_len}
use Rattle.engine_turns.specs.TableCalls.{on_table_of}
use Rattle.engine_threads.specs.Beginning.{IsReadyHere}
use Rattle.engine_threads.specs.declared.preparing.ReadyWorker.{ReadyWorker}
use Rattle.engine_threads.proofs.Each.{given_at}
use Rattle.engine_threads.proofs.Lists.{first_of, moved_on, next_number, others_of}
use Rattle.engine_threads.proofs.running.with_directories.Goals as goal

pub new-requires-clause-ready : goal.new-requires-clause-ready
new-requires-clause-ready g c =
    let Ready : Type 0 = ReadyWorker g.row.T.Denot g.row.N.Denot in
    first_of (λ (w : Ready). IsReadyHere g.S.Workers.work g.S.Workers.answers g.S.Workers.settings w.worker w.kept.share (on_table_of w.thread_log)) c.in-Some.one (into_iter_items c.loop-one.one-iterator) (into_iter_items c.next.new.self) c.in-Some.ensures.steps.0 c.loop-one.invariant.ready

pub new-requires-clause-first : goal.new-requires-clause-first
new-requires-clause-first g c =
    let Ready : Type 0 = ReadyWorker g.row.T.Denot g.row.N.Denot in
    let i = c.loop-one.invariant in
    let n : ℕ = c.loop-one.roles.len in
    let number = next_number (λ (w : Ready). w.worker.number) c.in-Some.one (into_iter_items c.loop-one.one-iterator) (into_iter_items c.next.new.self) n c.in-Some.ensures.steps.0 i.numbers in
    given_at g.S.Workers.given i.given.0 (into_iter_items c.loop-one.left) (into_iter_items c.next-in-loop-one.new.self) c.in-Some-next.calls n c.in-Some.one.worker.number i.given.1 c.in-Some-next.ensures.items i.given.2 number.0

pub loop-one-preserved : goal.loop-one-preserved
loop-one-preserved g c =
    let Ready : Type 0 = ReadyWorker g.row.T.Denot g.row.N.Denot in
    let i = c.loop-one.invariant in
    let n : ℕ = c.loop-one.roles.len in
    let s = c.in-Some.ensures.steps in
    let t = c.in-Some-next.ensures.items in
    let a = c.push_reserved.ensures in
    let from = into_iter_items c.loop-one.one-iterator in
    let rest = into_iter_items c.next.new.self in
    let left = into_iter_items c.loop-one.left in
    let after = into_iter_items c.next-in-loop-one.new.self in
    let calls = c.in-Some-next.calls in
    let before = i.given.0 in
    let number = next_number (λ (w : Ready). w.worker.number) c.in-Some.one from rest n s.0 i.numbers in
    let more : n + 1 ≡ c.push_reserved.new.self.len = (let x = a.len in omega arith) in
    let longer : length from ≡ suc (length rest) = ap length s.0 in
    let left_longer : length left ≡ suc (length after) = ap length t in
    let count : length (before ++ calls ∷ []) ≡ c.push_reserved.new.self.len = (let x = length-append before (calls ∷ []) in let y = i.given.2 in let z = a.len in omega arith) in
    record {
      ready = others_of (λ (w : Ready). IsReadyHere g.S.Workers.work g.S.Workers.answers g.S.Workers.settings w.worker w.kept.share (on_table_of w.thread_log)) c.in-Some.one from rest s.0 i.ready;
      numbers = number.1 ∙ ap (λ (k : ℕ). range_with_len k (length rest)) more;
      given = (before ++ calls ∷ [], moved_on g.S.Workers.given before left after calls i.given.1 t, count);
      each = (let y = i.each in omega arith);
      len = (let x = a.len in let y = s.1 in let z = i.len in omega arith);
      lens = (let y = s.1 in let z = i.lens in omega arith);
      room = (let x = a.capacity in let y = i.room in omega arith);
    }
