-- What each part of the work on a request leaves as it is, and what the share gains by it.
use Rattle.std.specs.Prelude.{◌≡◌}
use Rattle.ledger.specs.Shares.{Part}
use Rattle.engine.specs.Tables.{Table}
use Rattle.engine.specs.declared.requests.Session.{Session}

-- the settings, and whether a version is agreed on
pub record KeepsTerms (old new : Session) : Type 0 where
  pub settings : new.settings ≡ old.settings
  pub agreed : new.agreed ≡ old.agreed

-- and the share has gained what was posted
pub record KeepsBook {W : Type 0} (table : Table W) (old : Session) (world : W) (share : Part) (new : Session) (world' : W) (share' : Part) : Type 0 where
  pub terms : KeepsTerms old new
  pub gains : table.gains world share world' share'
