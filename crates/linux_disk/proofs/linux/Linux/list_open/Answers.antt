use Rattle.linux_disk.proofs.NameLemmas.{reads_on}
use Rattle.linux_disk.proofs.linux.Linux.list_open.Goals as goal

pub loop-part-preserved : goal.loop-part-preserved
loop-part-preserved g c = reads_on (g.C.SystemCalls.names c.args.self.now.calls) g.C.SystemCalls.advances c.in_ok-at.at c.loop-part.at c.read_names.new.at c.loop-part.names.items c.read_names.new.names.items _ c.loop-part.invariant c.in_ok-read_names.ensures
