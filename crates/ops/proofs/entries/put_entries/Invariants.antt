use Rattle.std.proofs.Common.{◌≡◌, ◌+◌, ◌++◌, drop}
use Rattle.ops.specs.Replies.{entries_bytes}
use Rattle.ops.proofs.entries.put_entries.Given as goal

abbrev pub invariant-loop-child : goal.invariant-loop-child
invariant-loop-child l = record {
  to_come : l.out.items ++ entries_bytes l.settings l.next (drop l.child-index l.children) l.founds l.givens ≡ l.fn.out.items ++ entries_bytes l.settings l.fn.from l.children l.fn.founds l.fn.givens;
  next : l.next ≡ l.fn.from + l.child-index;
}
