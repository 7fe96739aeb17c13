use Rattle.std.proofs.Common.{◌≡◌, ◌≤◌, ◌++◌, take, drop, length, vec_len}
use Rattle.backing.specs.Moves.{with_paths}
use Rattle.backing.proofs.moving.set_paths.Given as goal

abbrev pub invariant-loop-path : goal.invariant-loop-path
invariant-loop-path l = record {
  count : l.i ≡ length l.left.items;
  within : l.i ≤ length l.fn.paths.items;
  len : length l.entries.items ≡ length l.fn.paths.items;
  left : l.left.items ≡ take l.i l.fn.paths.items;
  set : l.entries.items ≡ take l.i l.fn.entries.items ++ drop l.i (with_paths l.fn.entries.items l.fn.paths.items);
}

abbrev pub decreases-loop-path : goal.decreases-loop-path
decreases-loop-path l = vec_len l.left
