use Rattle.std.specs.Prelude.{vec_len}
use Rattle.engine_turns.proofs.shares.leak_all.Given as goal

abbrev pub invariant-loop-share : goal.invariant-loop-share
invariant-loop-share g l = Unit {0}

abbrev pub decreases-loop-share : goal.decreases-loop-share
decreases-loop-share g l = vec_len l.shares
