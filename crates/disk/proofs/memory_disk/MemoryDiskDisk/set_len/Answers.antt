use Rattle.disk.specs.Spots.{tree_of, stands_in}
use Rattle.disk.proofs.Failing.{ended_cuts}
use Rattle.disk.proofs.memory_disk.MemoryDiskDisk.set_len.Goals as goal

pub returns : goal.returns
returns c = λ p there.
    let old = c.args.self.now.standing in
    let new = c.set_len.new.self in
    ended_cuts (tree_of old) (stands_in old) p c.args.size c.set_len.result c.ended.result (tree_of new) (stands_in new) c.ended.ensures (c.set_len.ensures p there)
