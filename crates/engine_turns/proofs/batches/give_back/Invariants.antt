use Rattle.std.specs.Prelude.{◌≡◌, vec_capacity, vec_len}
use Rattle.engine_turns.proofs.batches.give_back.Given as goal

abbrev pub invariant-loop-reply : goal.invariant-loop-reply
invariant-loop-reply l = vec_capacity l.replies ≡ vec_capacity l.initial.replies

abbrev pub decreases-loop-reply : goal.decreases-loop-reply
decreases-loop-reply l = vec_len l.replies
