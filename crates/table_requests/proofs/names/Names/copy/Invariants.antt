use Rattle.std.proofs.Common.{◌≡◌, take}
use Rattle.table_requests.proofs.names.Names.copy.Given as goal

abbrev pub invariant-loop-name : goal.invariant-loop-name
invariant-loop-name l = l.copies.items ≡ take l.name-index l.name-items
