use Rattle.std.proofs.Common.{◌≡◌, ◌+◌, List, ℕ, Err, Some, take, drop, refl, ap, ◌∙◌, rules}
use Rattle.std.proofs.lemmas.List.{places, with_items_is}
use Rattle.std.specs.Vec.{with_items}
use Rattle.std.specs.Option.{option_map}
use Rattle.crossbeam_channel.specs.Claims.{view}
use Rattle.wire.specs.Stream.{Cutting}
use Rattle.engine.specs.Links.{Broke, Ended}
use Rattle.engine.specs.declared.ends.SessionEnd.TheVariants as ends
use Rattle.engine_turns.specs.Shown.{progress, queued_of, shown}
use Rattle.engine_turns.specs.declared.reader.TheConstants.{GAP}
use Rattle.engine_turns.proofs.Receiving.{all_kept, behind_grown, behind_same, keeps_none, met_bad, none_kept, not_refused, reads_all, same_kept}
use Rattle.engine_turns.proofs.reader.Reader.turn.Goals as goal

pub invariant_of-self-in-Ok-clause-stopped_by : goal.invariant_of-self-in-Ok-clause-stopped_by
invariant_of-self-in-Ok-clause-stopped_by g c = not_refused c.args.self.now.cutter c.feed_from.new.self c.in-Ok.field-0 c.feed_from.result c.in-Ok.is c.feed_from.ensures.bad (ap (λ (k : Cutting). k.stopped) c.in-Ok.ensures.ok)

pub returns-in-Ok-clause-reads : goal.returns-in-Ok-clause-reads
returns-in-Ok-clause-reads g c =
    let s = c.args.self.now in
    let room = c.receive_between.new.room in
    let n = c.in-Bytes.count in
    let items = (with_items s.room room).items in
    let whole : items ≡ room = with_items_is s.room room (search (rules, places)) in
    let front = c.receive_between.ensures.front ∙ ap (take (GAP + s.unkept)) c.as_mut_slice.ensures.value in
    let grown = ap (λ (bytes : List ℕ). take (s.unkept + n) (drop GAP bytes)) whole ∙ behind_grown s.room.items room GAP s.unkept n front in
    let bytes = take n (drop (GAP + s.unkept) room) in
    reads_all g.L.LinkIn.receives c.args.link.now c.receive_between.new.link (progress s) (progress c.queue_all.new.self) c.queue_all.result bytes c.in-Bytes.ensures.brought _
    (all_kept s.agreed (queued_of (view s.pass).put) (option_map shown s.last_job) (option_map shown s.handed_back) s.cutter.kept c.feed_from.new.self.kept (take s.unkept (drop GAP s.room.items)) (take (s.unkept + n) (drop GAP items)) bytes
    (ap (λ (k : Cutting). k.kept) c.in-Ok.ensures.ok) grown) c.queue_all.ensures.all

pub returns-in-Err-BadLength-clause-reads : goal.returns-in-Err-BadLength-clause-reads
returns-in-Err-BadLength-clause-reads g c =
    let s = c.args.self.now in
    let room = c.receive_between.new.room in
    let n = c.in-Bytes.count in
    let arm = c.in-Err-BadLength in
    let items = (with_items s.room room).items in
    let whole : items ≡ room = with_items_is s.room room (search (rules, places)) in
    let front = c.receive_between.ensures.front ∙ ap (take (GAP + s.unkept)) c.as_mut_slice.ensures.value in
    let behind = λ (bytes : List ℕ). take (s.unkept + n) (drop GAP bytes) in
    let grown = ap behind arm.ensures.err.1 ∙ (ap behind whole ∙ behind_grown s.room.items room GAP s.unkept n front) in
    let bytes = take n (drop (GAP + s.unkept) room) in
    rw arm.len-is (keeps_none g.L.LinkIn.receives c.args.link.now c.receive_between.new.link (progress s) _ (Some (ends.BadLength arm.len)) bytes c.in-Bytes.ensures.brought
    (met_bad s.cutter arm.len ((arm.ensures.bad arm.len).0 (ap Err arm.field-0-is)) s.stopped_by)
    (none_kept s.agreed (queued_of (view s.pass).put) (option_map shown s.last_job) (option_map shown s.handed_back) s.cutter.kept c.feed_from.new.self.kept (take s.unkept (drop GAP s.room.items)) (take (s.unkept + n) (drop GAP c.feed_from.new.room.items)) bytes
    (ap (λ (k : Cutting). k.kept) arm.ensures.err.0) grown))

pub returns-in-Err-Memory-clause-reads : goal.returns-in-Err-Memory-clause-reads
returns-in-Err-Memory-clause-reads g c =
    let s = c.args.self.now in
    let room = c.receive_between.new.room in
    let n = c.in-Bytes.count in
    let arm = c.in-Err-Memory in
    let items = (with_items s.room room).items in
    let whole : items ≡ room = with_items_is s.room room (search (rules, places)) in
    let front = c.receive_between.ensures.front ∙ ap (take (GAP + s.unkept)) c.as_mut_slice.ensures.value in
    let behind = λ (bytes : List ℕ). take (s.unkept + n) (drop GAP bytes) in
    let grown = ap behind arm.ensures.err.1 ∙ (ap behind whole ∙ behind_grown s.room.items room GAP s.unkept n front) in
    let bytes = take n (drop (GAP + s.unkept) room) in
    keeps_none g.L.LinkIn.receives c.args.link.now c.receive_between.new.link (progress s) _ (Some ends.Memory) bytes c.in-Bytes.ensures.brought tt
    (none_kept s.agreed (queued_of (view s.pass).put) (option_map shown s.last_job) (option_map shown s.handed_back) s.cutter.kept c.feed_from.new.self.kept (take s.unkept (drop GAP s.room.items)) (take (s.unkept + n) (drop GAP c.feed_from.new.room.items)) bytes
    (ap (λ (k : Cutting). k.kept) arm.ensures.err.0) grown)

pub returns-in-End-clause-reads : goal.returns-in-End-clause-reads
returns-in-End-clause-reads g c =
    let s = c.args.self.now in
    let room = c.receive_between.new.room in
    let items = (with_items s.room room).items in
    let whole : items ≡ room = with_items_is s.room room (search (rules, places)) in
    let front = c.receive_between.ensures.front ∙ ap (take (GAP + s.unkept)) c.as_mut_slice.ensures.value in
    let same = ap (λ (bytes : List ℕ). take s.unkept (drop GAP bytes)) whole ∙ behind_same s.room.items room GAP s.unkept front in
    record {
      heard = Ended;
      brought = c.in-End.ensures.brought;
      reads = (
        ap (λ (n : ℕ). Some (ends.Closed n)) c.rest.ensures,
        same_kept s.agreed (queued_of (view s.pass).put) (option_map shown s.last_job) (option_map shown s.handed_back) s.cutter.kept (take s.unkept (drop GAP s.room.items)) (take s.unkept (drop GAP items)) same,
      );
    }

pub returns-in-Broken-clause-reads : goal.returns-in-Broken-clause-reads
returns-in-Broken-clause-reads g c =
    let s = c.args.self.now in
    let room = c.receive_between.new.room in
    let items = (with_items s.room room).items in
    let whole : items ≡ room = with_items_is s.room room (search (rules, places)) in
    let front = c.receive_between.ensures.front ∙ ap (take (GAP + s.unkept)) c.as_mut_slice.ensures.value in
    let same = ap (λ (bytes : List ℕ). take s.unkept (drop GAP bytes)) whole ∙ behind_same s.room.items room GAP s.unkept front in
    record {
      heard = Broke;
      brought = c.in-Broken.ensures.brought;
      reads = (
        refl,
        same_kept s.agreed (queued_of (view s.pass).put) (option_map shown s.last_job) (option_map shown s.handed_back) s.cutter.kept (take s.unkept (drop GAP s.room.items)) (take s.unkept (drop GAP items)) same,
      );
    }
