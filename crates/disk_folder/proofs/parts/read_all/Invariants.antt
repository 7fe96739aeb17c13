use Rattle.std.proofs.Common.{length, ◌-◌, ◌≤◌, ◌≡◌, ℕ, List, Some}
use Rattle.paths.specs.Prefixes.{Names}
use Rattle.backing.specs.declared.entries.Item.TheVariants.{File}
use Rattle.disk_folder.proofs.PartLemmas.{ReadSoFar}
use Rattle.disk_folder.proofs.parts.read_all.Given as goal

abbrev pub invariant-loop-count : goal.invariant-loop-count
invariant-loop-count g l = record {
  within : l.count ≤ length l.buffer;
  bytes : (p : Names) (bytes : List ℕ) → g.D.Disk.stands l.disk l.file p → g.D.Disk.tree l.disk p ≡ Some (File bytes) → ReadSoFar bytes l.offset l.count l.buffer;
}

abbrev pub decreases-loop-count : goal.decreases-loop-count
decreases-loop-count g l = length l.initial.buffer - l.count
