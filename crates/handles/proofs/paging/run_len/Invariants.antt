use Rattle.std.proofs.Common.{◌≡◌, ◌+◌, take}
use Rattle.handles.specs.Pages.{bytes_of}
use Rattle.handles.proofs.paging.run_len.Given as goal

abbrev pub invariant-loop-i : goal.invariant-loop-i
invariant-loop-i l = bytes_of l.plus (take l.i l.entries) + l.left ≡ l.size
