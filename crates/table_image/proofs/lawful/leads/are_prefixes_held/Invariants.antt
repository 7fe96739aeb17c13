use Rattle.table_image.proofs.Leading.{HoldsBelow}
use Rattle.table_image.proofs.lawful.leads.are_prefixes_held.Given as goal

abbrev pub invariant-loop-i : goal.invariant-loop-i
invariant-loop-i l = HoldsBelow l.held l.path l.i
