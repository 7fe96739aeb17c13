use Rattle.table.proofs.Exporting.{zip_more}
use Rattle.table.proofs.export.copy_records.Goals as goal

pub loop-flight-preserved : goal.loop-flight-preserved
loop-flight-preserved c =
    rw c.in_ok-push.ensures.items (zip_more c.args.flights.now c.loop-flight.flight-index c.flight-item.result c.flight-item.result c.loop-flight.records.items c.in_ok-copy_record.field-0 c.loop-flight-test.true c.flight-item.is c.loop-flight.invariant c.in_ok-copy_record.ensures)
