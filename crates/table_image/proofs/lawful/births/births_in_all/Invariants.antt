use Rattle.std.proofs.Common.{◌≡◌, ◌≤◌, ◌*◌, ◌-◌, ◌^◌, take}
use Rattle.table_image.specs.Parts.{births_summed}
use Rattle.table_image.proofs.lawful.births.births_in_all.Given as goal

abbrev pub invariant-loop-entry : goal.invariant-loop-entry
invariant-loop-entry l = record {
  sum : l.births ≡ births_summed (take l.entry-index l.kept);
  small : l.births ≤ l.entry-index * (2 ^ 64 - 1);
}
