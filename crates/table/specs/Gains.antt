-- What calls add to the ledger and to the share that is passed to them.
use Rattle.std.specs.Prelude.{◌≡◌}
use Rattle.ledger.specs.declared.shares.Totals.{Totals}
use Rattle.ledger.specs.Periods.{continued}
use Rattle.ledger.specs.Shares.{Part, plus}
use Rattle.ledger.specs.Sums.{totals_of, totals_over}
use Rattle.table_steps.specs.Steps.{gained}
use Rattle.table_steps.specs.World.{IsLawfulWorld, World}

-- afterwards the table is lawful, its ledger has some more postings in the same period, and the share has their totals
pub record Gains (old : World) (before : Part) (new : World) (after : Part) : Type 0 where
  pub lawful : IsLawfulWorld new
  pub grows : new.postings ≡ continued old.postings (gained old new)
  pub share : after ≡ record before { totals = plus before.totals (totals_of (gained old new)) }

-- afterwards the table is lawful, and the ledger's totals of all periods have grown by as much as the share's
pub record GainsInAll (old : World) (before : Part) (new : World) (after : Part) : Type 0 where
  pub lawful : IsLawfulWorld new
  pub more : Totals
  pub ledger : totals_over new.postings ≡ plus (totals_over old.postings) more
  pub share : after ≡ record before { totals = plus before.totals more }
