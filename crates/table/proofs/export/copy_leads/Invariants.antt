use Rattle.std.proofs.Common.{◌≡◌, take}
use Rattle.table.proofs.export.copy_leads.Given as goal

abbrev pub invariant-loop-lead : goal.invariant-loop-lead
invariant-loop-lead l = l.copies.items ≡ take l.lead-index l.leads
