use Rattle.std.specs.Prelude.{◌≡◌, ◌+◌, ◌++◌, ◌≤◌, ◌<◌, true, length, map, vec_len, vec_capacity}
use Rattle.std.specs.List.{flat_map, range_with_len}
use Rattle.std.specs.Vec.Iter.{into_iter_items, into_iter_len}
use Rattle.crossbeam_channel.specs.Claims.{view, IsSeatAt}
use Rattle.crossbeam_channel.specs.Ends.{sends_on}
use Rattle.engine_queues.specs.Gathered.{AreSeated, numbers_of, puts_of, takings_of}
use Rattle.engine_queues.proofs.gathering.gather.Given as goal

abbrev pub invariant-loop-passes : goal.invariant-loop-passes
invariant-loop-passes g l =
    let rest = into_iter_items l.passes-iterator in
    record {
      read : IsSeatAt (sends_on l.jobs) l.all;
      written : IsSeatAt (sends_on l.replies) l.whole;
      parts : (view l.all).parts + into_iter_len l.passes-iterator ≡ 8;
      put : (view l.all).put ≡ (view l.fn.read).put;
      took : (view l.all).taken ++ flat_map (λ js. js) (takings_of rest) ≡ flat_map (λ js. js) (takings_of l.fn.ended.items);
      gets : (view l.whole).gets ≡ true;
      made : (view l.whole).made ≡ length (view l.whole).known + into_iter_len l.passes-iterator;
      got : (view l.whole).got ≡ (view l.fn.written).got;
      known : (view l.whole).known ++ puts_of rest ≡ puts_of l.fn.ended.items;
      counts : l.taken.items ++ map (λ js. length js) (takings_of rest) ≡ map (λ js. length js) (takings_of l.fn.ended.items);
      numbers : numbers_of rest ≡ range_with_len (length (view l.whole).known) (into_iter_len l.passes-iterator);
      seats : AreSeated (λ p. IsSeatAt (sends_on l.jobs) p) (λ p. IsSeatAt (sends_on l.replies) p) rest;
      room : vec_len l.taken + into_iter_len l.passes-iterator ≤ vec_capacity l.taken;
      few : into_iter_len l.passes-iterator < 8;
      lens : into_iter_len l.passes-iterator ≡ length rest;
    }
