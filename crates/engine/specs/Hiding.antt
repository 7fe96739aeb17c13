-- A session in which all nodes with hidden marks are at reserved names.
use Rattle.std.specs.Prelude.{ℕ, ◌≡◌, false}
use Rattle.table_hiding.specs.Hiding.{ArePathsOfMarked, KeepsHidden}
use Rattle.table_steps.specs.Answers.{Settlement}
use Rattle.table_steps.specs.World.{IsLawfulWorld, World}
use Rattle.table.specs.Gains.{GainsInAll}
use Rattle.table.specs.Renewing.{BeginsAnew, FinishesAnew, ForgetsAnew, SettlesAnew}
use Rattle.engine.specs.Tables.{IsIdle, Table}

-- the table that is served, where after each call each node with a hidden mark is at a reserved name: so the leftover
-- files are all that have such a mark
abbrev pub hiding : Table World
hiding = record {
  begins = λ old unique want told new. BeginsAnew old unique want told new × IsLawfulWorld new × KeepsHidden new;
  finishes = λ old id outcome answer new. FinishesAnew old id outcome answer new × IsLawfulWorld new × KeepsHidden new;
  settles = λ old answer put taken new. (settled : Settlement) × SettlesAnew old answer taken settled new × IsLawfulWorld new × KeepsHidden new;
  forgets = λ old number n new. (amount : ℕ) × ForgetsAnew old number n amount new × IsLawfulWorld new × KeepsHidden new;
  finds = λ old fh file new. (file ≡ old.files fh) × (new ≡ old);
  knows = λ answer. answer.lost ≡ false;
  is_free = λ w. Unit {0};
  holds = λ w answer. Unit {0};
  gains = GainsInAll;
  leftovers = λ world paths. ArePathsOfMarked world.at paths;
  is_idle = IsIdle;
}
