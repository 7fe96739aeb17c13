use Rattle.std.proofs.Common.{◌≡◌, ◌+◌, ◌++◌, replicate, vec_len, vec_capacity}
use Rattle.engine.specs.declared.links.Sent.TheVariants.{Taken}
use Rattle.engine_streams.proofs.joining.push_taken.Given as goal

abbrev pub invariant-loop : goal.invariant-loop
invariant-loop l = record {
  items : l.sent.items ≡ l.initial.sent.items ++ replicate l.counter Taken;
  len : vec_len l.sent ≡ vec_len l.initial.sent + l.counter;
  room : vec_capacity l.sent ≡ vec_capacity l.initial.sent;
}
