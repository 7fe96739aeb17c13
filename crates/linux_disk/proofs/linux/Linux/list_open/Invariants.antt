use Rattle.linux_disk.specs.Listings.{ReadsOn}
use Rattle.linux_disk.proofs.linux.Linux.list_open.Given as goal

-- the parts that were read so far
abbrev pub invariant-loop-part : goal.invariant-loop-part
invariant-loop-part g l = ReadsOn (g.C.SystemCalls.names l.self.calls) g.C.SystemCalls.advances l.initial.at l.at l.names.items
