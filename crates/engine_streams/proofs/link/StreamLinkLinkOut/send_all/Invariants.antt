use Rattle.std.proofs.Common.{◌≡◌, ◌≤◌, ◌-◌, length, map, take, vec_capacity}
use Rattle.engine.specs.Batches.{bytes_of, BeginsEach}
use Rattle.engine_streams.specs.Streams.{Sends}
use Rattle.engine_streams.proofs.link.StreamLinkLinkOut.send_all.Given as goal

-- that many were offered, and the link is not broken
abbrev pub invariant-loop-self : goal.invariant-loop-self
invariant-loop-self g l = record {
  begun : BeginsEach Sends l.initial.self (take (length l.sent.items) (map bytes_of l.frames)) l.sent.items l.self;
  within : length l.sent.items ≤ length l.frames;
  room : vec_capacity l.sent ≡ vec_capacity l.initial.sent;
}

abbrev pub decreases-loop-self : goal.decreases-loop-self
decreases-loop-self g l = length l.frames - length l.sent.items
