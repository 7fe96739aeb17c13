use Rattle.std.proofs.Common.{◌≡◌, ◌≤◌, ◌++◌, take, drop, length, vec_len}
use Rattle.disk.specs.Spots.{with_paths}
use Rattle.disk.proofs.moving.set_paths.Given as goal

abbrev pub invariant-loop-path : goal.invariant-loop-path
invariant-loop-path l = record {
  count : l.i ≡ length l.left.items;
  within : l.i ≤ length l.fn.paths.items;
  len : length l.spots.items ≡ length l.fn.paths.items;
  left : l.left.items ≡ take l.i l.fn.paths.items;
  set : l.spots.items ≡ take l.i l.fn.spots.items ++ drop l.i (with_paths l.fn.spots.items l.fn.paths.items);
}

abbrev pub decreases-loop-path : goal.decreases-loop-path
decreases-loop-path l = vec_len l.left
