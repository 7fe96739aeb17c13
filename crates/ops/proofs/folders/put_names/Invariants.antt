use Rattle.std.proofs.Common.{◌≡◌, ◌+◌, ◌++◌, drop}
use Rattle.ops.specs.Folders.{names_bytes}
use Rattle.ops.proofs.folders.put_names.Given as goal

abbrev pub invariant-loop-child : goal.invariant-loop-child
invariant-loop-child l = record {
  to_come : l.out.items ++ names_bytes l.next (drop l.child-index l.children) ≡ l.fn.out.items ++ names_bytes l.fn.from l.children;
  next : l.next ≡ l.fn.from + l.child-index;
}
