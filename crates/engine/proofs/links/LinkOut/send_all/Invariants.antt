use Rattle.std.proofs.Common.{◌≡◌, map, take, vec_len, vec_capacity}
use Rattle.engine.specs.Batches.{bytes_of, BeginsEach}
use Rattle.engine.proofs.links.LinkOut.send_all.Given as goal

-- the replies before this one were offered, and the link is not broken
abbrev pub invariant-loop-frame : goal.invariant-loop-frame
invariant-loop-frame g l = record {
  begun : BeginsEach g.Self.LinkOut.sends l.initial.self (map bytes_of (take l.frame-index l.frames)) l.sent.items l.self;
  len : vec_len l.sent ≡ l.frame-index;
  room : vec_capacity l.sent ≡ vec_capacity l.initial.sent;
}
