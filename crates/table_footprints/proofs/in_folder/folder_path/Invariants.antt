use Rattle.std.proofs.Common.{Contains, map, take}
use Rattle.holds.specs.declared.held.GivenPath.{GivenPath}
use Rattle.table_footprints.proofs.in_folder.folder_path.Given as goal

abbrev pub invariant-loop-lead : goal.invariant-loop-lead
invariant-loop-lead l = record { others : Contains (map (λ (lead : GivenPath). lead.number) (take l.lead-index l.given)) l.folder → ⊥ }
