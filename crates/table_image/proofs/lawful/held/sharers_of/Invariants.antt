use Rattle.std.proofs.Common.{◌≡◌, ◌≤◌, take}
use Rattle.std.specs.Prelude.{count_by}
use Rattle.table_image.specs.declared.data.Record.{Record}
use Rattle.table_image.specs.ImageLaw.{shares}
use Rattle.table_image.proofs.lawful.held.sharers_of.Given as goal

abbrev pub invariant-loop-record : goal.invariant-loop-record
invariant-loop-record l = record {
  counted : l.count ≡ count_by (λ (r : Record). shares r l.path) (take l.record-index l.records);
  few : l.count ≤ l.record-index;
}
