use Rattle.std.proofs.Common.{◌≡◌, ◌<◌, ◌^◌, take}
use Rattle.handles.specs.Pages.{bytes_of}
use Rattle.handles.proofs.paging.page_len.Given as goal

abbrev pub invariant-loop-entry : goal.invariant-loop-entry
invariant-loop-entry l = record {
  sum : l.sum ≡ bytes_of l.plus (take l.entry-index l.entries);
  small : l.sum < 2 ^ 64;
}
