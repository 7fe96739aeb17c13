use Rattle.std.proofs.Common.{◌≡◌, ◌∙◌, [], length, map, sym, ap}
use Rattle.std.specs.List.{range_with_len}
use Rattle.shared_history.specs.Views.{thread_log}
use Rattle.engine_turns.specs.TableCalls.{on_table_of}
use Rattle.engine_threads.proofs.Lists.{last_one, map_length, map_through, ok_of, range_length}
use Rattle.engine_threads.proofs.preparing.shared_table_of.Goals as goal

pub returns-clause-workers : goal.returns-clause-workers
returns-clause-workers g c =
    let made = ok_of _ c.new.result (c.in_ok-shared_table.shared_table, c.in_ok-shared_table.thread_logs) c.in_ok-shared_table.ensures.value c.new.ensures in
    ap (map on_table_of) (last_one (λ index. thread_log index [] []) c.args.count c.in_ok-shared_table.thread_logs.items c.pop.new.self.items c.in_ok-writer.writer made c.in_ok-writer.ensures.items).0
    ∙ sym (map_through (λ index. thread_log index [] []) on_table_of (range_with_len 0 c.args.count))

pub returns-clause-len : goal.returns-clause-len
returns-clause-len g c =
    let made = ok_of _ c.new.result (c.in_ok-shared_table.shared_table, c.in_ok-shared_table.thread_logs) c.in_ok-shared_table.ensures.value c.new.ensures in
    let cut = last_one (λ index. thread_log index [] []) c.args.count c.in_ok-shared_table.thread_logs.items c.pop.new.self.items c.in_ok-writer.writer made c.in_ok-writer.ensures.items in
    let len : length c.pop.new.self.items ≡ c.args.count = ap length cut.0 ∙ (map_length (λ index. thread_log index [] []) (range_with_len 0 c.args.count) ∙ range_length 0 c.args.count) in
    c.pop.new.self.ok.0 ∙ len

pub returns-clause-writer : goal.returns-clause-writer
returns-clause-writer g c =
    let made = ok_of _ c.new.result (c.in_ok-shared_table.shared_table, c.in_ok-shared_table.thread_logs) c.in_ok-shared_table.ensures.value c.new.ensures in
    ap on_table_of (last_one (λ index. thread_log index [] []) c.args.count c.in_ok-shared_table.thread_logs.items c.pop.new.self.items c.in_ok-writer.writer made c.in_ok-writer.ensures.items).1
