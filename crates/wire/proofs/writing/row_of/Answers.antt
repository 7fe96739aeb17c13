use Rattle.std.proofs.Common.{rules}
use Rattle.wire.specs.Written.{zeros}
use Rattle.wire.proofs.Lengths.{lengths}
use Rattle.wire.proofs.writing.row_of.Goals.{in-Lookup, in-Forget, in-GetAttr, in-SetAttr, in-ReadLink, in-MakeLink, in-MakeDir, in-Unlink, in-RemoveDir, in-Rename, in-Link, in-Open, in-Read, in-Write, in-StatFs, in-Release, in-Sync, in-Flush, in-Init, in-OpenDir, in-ReadDir, in-ReleaseDir, in-SyncDir, in-Create, in-Interrupt, in-Destroy, in-BatchForget, in-ReadDirPlus, in-Rename2}
use Rattle.wire.proofs.writing.row_of.Goals as goal

-- with the operation given, the layout is computed directly and not found by a search over all opcodes
pub returns-clause-bytes : goal.returns-clause-bytes
unfolding zeros
returns-clause-bytes c = elim c.match-operation.branch [
  | in-Lookup w ↦ rw (w.opcode-is, w.in-Lookup.is) search (rules, lengths)
  | in-Forget w ↦ rw (w.opcode-is, w.in-Forget.is) search (rules, lengths)
  | in-GetAttr w ↦ rw (w.opcode-is, w.in-GetAttr.is) search (rules, lengths)
  | in-SetAttr w ↦ rw (w.opcode-is, w.in-SetAttr.is) search (rules, lengths)
  | in-ReadLink w ↦ rw (w.opcode-is, w.in-ReadLink.is) search (rules, lengths)
  | in-MakeLink w ↦ rw (w.opcode-is, w.in-MakeLink.is) search (rules, lengths)
  | in-MakeDir w ↦ rw (w.opcode-is, w.in-MakeDir.is) search (rules, lengths)
  | in-Unlink w ↦ rw (w.opcode-is, w.in-Unlink.is) search (rules, lengths)
  | in-RemoveDir w ↦ rw (w.opcode-is, w.in-RemoveDir.is) search (rules, lengths)
  | in-Rename w ↦ rw (w.opcode-is, w.in-Rename.is) search (rules, lengths)
  | in-Link w ↦ rw (w.opcode-is, w.in-Link.is) search (rules, lengths)
  | in-Open w ↦ rw (w.opcode-is, w.in-Open.is) search (rules, lengths)
  | in-Read w ↦ rw (w.opcode-is, w.in-Read.is) search (rules, lengths)
  | in-Write w ↦ rw (w.opcode-is, w.in-Write.is) search (rules, lengths)
  | in-StatFs w ↦ rw (w.opcode-is, w.in-StatFs.is) search (rules, lengths)
  | in-Release w ↦ rw (w.opcode-is, w.in-Release.is) search (rules, lengths)
  | in-Sync w ↦ rw (w.opcode-is, w.in-Sync.is) search (rules, lengths)
  | in-Flush w ↦ rw (w.opcode-is, w.in-Flush.is) search (rules, lengths)
  | in-Init w ↦ rw (w.opcode-is, w.in-Init.is) search (rules, lengths)
  | in-OpenDir w ↦ rw (w.opcode-is, w.in-OpenDir.is) search (rules, lengths)
  | in-ReadDir w ↦ rw (w.opcode-is, w.in-ReadDir.is) search (rules, lengths)
  | in-ReleaseDir w ↦ rw (w.opcode-is, w.in-ReleaseDir.is) search (rules, lengths)
  | in-SyncDir w ↦ rw (w.opcode-is, w.in-SyncDir.is) search (rules, lengths)
  | in-Create w ↦ rw (w.opcode-is, w.in-Create.is) search (rules, lengths)
  | in-Interrupt w ↦ rw (w.opcode-is, w.in-Interrupt.is) search (rules, lengths)
  | in-Destroy w ↦ rw (w.opcode-is, w.in-Destroy.is) search (rules, lengths)
  | in-BatchForget w ↦ rw (w.opcode-is, w.in-BatchForget.is) search (rules, lengths)
  | in-ReadDirPlus w ↦ rw (w.opcode-is, w.in-ReadDirPlus.is) search (rules, lengths)
  | in-Rename2 w ↦ rw (w.opcode-is, w.in-Rename2.is) search (rules, lengths)
]
