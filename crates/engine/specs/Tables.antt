-- A table in terms of its steps, and what a session knows about its state between two requests.
use Rattle.std.specs.Prelude.{ℕ, ◌≡◌, Bool, false, List, Option, None}
use Rattle.paths.specs.Prefixes.{Names}
use Rattle.table_files.specs.declared.data.OpenFile.{OpenFile}
use Rattle.ledger.specs.Shares.{Part}
use Rattle.table_requests.specs.declared.data.Want.{Want}
use Rattle.table_steps.specs.Answers.{Answer, Settlement}
use Rattle.table_steps.specs.World.{IsLawfulWorld, World}
use Rattle.table_steps.specs.declared.data.Begin.{Begin}
use Rattle.table_steps.specs.declared.data.Outcome.{Outcome}
use Rattle.table.specs.Leftovers.{AreLeftovers}
use Rattle.table.specs.Gains.{GainsInAll}
use Rattle.table.specs.Renewing.{BeginsAnew, FinishesAnew, ForgetsAnew, SettlesAnew}

-- a table whose states are the elements of W
pub record Table (W : Type 0) : Type 1 where
  -- the period of the ledger ends first if that is due, and then the request begins
  pub begins : W → (unique : ℕ) → Want → Begin → W → Type 0
  pub finishes : W → (id : ℕ) → Outcome → Answer → W → Type 0
  -- an answer, and the handle of the listing that was stored for it
  pub settles : W → Answer → (put : Option ℕ) → (taken : Bool) → W → Type 0
  pub forgets : W → (number n : ℕ) → W → Type 0
  -- the file open under a handle, if there is one
  pub finds : W → (fh : ℕ) → Option OpenFile → W → Type 0
  -- an answer of this table
  pub knows : Answer → Type 0
  -- no request was finished since the caller has had it
  pub is_free : W → Type 0
  -- this answer was given last, and is to be settled
  pub holds : W → Answer → Type 0
  -- what a share gains
  pub gains : W → Part → W → Part → Type 0
  -- these are the paths of all hidden files
  pub leftovers : W → List Names → Type 0
  -- no request is in flight
  pub is_idle : W → Type 0

abbrev pub IsIdle : World → Type 0
IsIdle w = (id : ℕ) → w.flights id ≡ None

-- the table that is served: each call leads to a lawful world
abbrev pub worlds : Table World
worlds = record {
  begins = λ old unique want told new. BeginsAnew old unique want told new × IsLawfulWorld new;
  finishes = λ old id outcome answer new. FinishesAnew old id outcome answer new × IsLawfulWorld new;
  settles = λ old answer put taken new. (settled : Settlement) × SettlesAnew old answer taken settled new × IsLawfulWorld new;
  forgets = λ old number n new. (amount : ℕ) × ForgetsAnew old number n amount new × IsLawfulWorld new;
  finds = λ old fh file new. (file ≡ old.files fh) × (new ≡ old);
  knows = λ answer. answer.lost ≡ false;
  is_free = λ w. Unit {0};
  holds = λ w answer. Unit {0};
  gains = GainsInAll;
  leftovers = λ world paths. AreLeftovers world.at paths;
  is_idle = IsIdle;
}
