use Rattle.std.proofs.Common.{length, ◌-◌, ◌≤◌, ◌≡◌, ℕ, List, Some}
use Rattle.paths.specs.Prefixes.{Names}
use Rattle.backing.specs.declared.entries.Item.TheVariants.{File}
use Rattle.disk.specs.Answers.{AllStay}
use Rattle.disk_folder.specs.Parts.{WroteSoFar}
use Rattle.disk_folder.proofs.parts.write_all.Given as goal

abbrev pub invariant-loop-count : goal.invariant-loop-count
invariant-loop-count g l = record {
  within : l.count ≤ length l.bytes;
  stay : (p : Names) (before : List ℕ) → g.D.Disk.stands l.initial.disk l.file p → g.D.Disk.tree l.initial.disk p ≡ Some (File before) → AllStay (g.D.Disk.stands l.initial.disk) (g.D.Disk.stands l.disk);
  wrote : (p : Names) (before : List ℕ) → g.D.Disk.stands l.initial.disk l.file p → g.D.Disk.tree l.initial.disk p ≡ Some (File before) → WroteSoFar (g.D.Disk.tree l.initial.disk) p before l.offset l.bytes l.count (g.D.Disk.tree l.disk);
}

abbrev pub decreases-loop-count : goal.decreases-loop-count
decreases-loop-count g l = length l.bytes - l.count
