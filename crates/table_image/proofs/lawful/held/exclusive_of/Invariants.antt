use Rattle.std.proofs.Common.{◌≡◌, ◌≤◌, take}
use Rattle.std.specs.Prelude.{count_by}
use Rattle.table_image.specs.declared.data.Record.{Record}
use Rattle.table_image.specs.ImageLaw.{holds_exclusively}
use Rattle.table_image.proofs.lawful.held.exclusive_of.Given as goal

abbrev pub invariant-loop-record : goal.invariant-loop-record
invariant-loop-record l = record {
  counted : l.count ≡ count_by (λ (r : Record). holds_exclusively r l.path) (take l.record-index l.records);
  few : l.count ≤ l.record-index;
}
