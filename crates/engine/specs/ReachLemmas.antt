-- A table that one thread owns, as a way to access it.
use Rattle.std.proofs.Common.{ℕ, ℤ, ◌≡◌, Bool, Option, to_z, of_z, w32, sym, ap, subst, ◌∙◌}
use Rattle.std.proofs.lemmas.Option.{none-some}
use Rattle.table_files.specs.declared.data.OpenFile.{OpenFile}
use Rattle.table_requests.specs.declared.data.Want.{Want}
use Rattle.ledger.specs.Shares.{Part}
use Rattle.table_steps.specs.Answers.{Answer, Claim}
use Rattle.table_steps.specs.World.{World}
use Rattle.table_steps.specs.declared.data.Begin.TheVariants.{Busy, Go, Refused}
use Rattle.table_steps.specs.declared.data.Outcome.{Outcome}
use Rattle.table.specs.Gains.{GainsInAll}
use Rattle.table_steps.specs.Steps.{Begins}
use Rattle.table.proofs.Gaining as gaining
use Rattle.table.proofs.Closing.{flights_renewed}
use Rattle.engine.specs.Tables.{worlds, IsIdle}
use Rattle.engine.specs.AloneLemmas.{finishes_one, forgets_idle, refused_bits, settles_one}

pub gains_on : (old mid new : World) (before between after : Part) → GainsInAll old before mid between → GainsInAll mid between new after → GainsInAll old before new after
gains_on = gaining.in_all_on

-- No other request is in flight, so there is no conflict.
pub waits : (old new : World) (unique : ℕ) (want : Want) → IsIdle old → worlds.begins old unique want Busy new → new ≡ old
waits old new unique want idle b =
    let up = b.0.begins.begins.1.up in
    absurd (none-some up.flight (sym (flights_renewed old b.0.renewed b.0.renews up.id ∙ idle up.id) ∙ up.here.here))

pub refuses : (old new : World) (unique : ℕ) (want : Want) (errno : ℤ) → IsIdle old → worlds.begins old unique want (Refused errno) new → (worlds.begins old unique want (Refused (to_z w32 (of_z w32 errno))) new) × IsIdle new
refuses old new unique want errno idle b = ((refused_bits old new unique want errno b.0, b.1), λ id. ap (λ (w : World). w.flights id) b.0.begins.begins.1 ∙ (flights_renewed old b.0.renewed b.0.renews id ∙ idle id))

pub completes : (old mid fin new : World) (unique : ℕ) (want : Want) (claim : Claim) (outcome : Outcome) (answer : Answer) (put : Option ℕ) (taken : Bool) → IsIdle old
    → worlds.begins old unique want (Go claim) mid → worlds.finishes mid claim.id outcome answer fin → worlds.settles fin answer put taken new → worlds.knows answer × IsIdle new
completes old mid fin new unique want claim outcome answer put taken idle begins finishes settles =
    let f = finishes.0 in
    let s = settles.1 in
    let on : Begins begins.0.renewed unique want (Go claim) mid = begins.0.begins in
    let alone = finishes_one begins.0.renewed mid f.renewed fin unique want claim outcome answer (λ id. flights_renewed old begins.0.renewed begins.0.renews id ∙ idle id) on (flights_renewed mid f.renewed f.room) f.finishes in
    (alone.not_lost, settles_one fin s.renewed new claim.id answer taken settles.0 alone (flights_renewed fin s.renewed s.room) s.settles)

pub forgets : (old new : World) (number n : ℕ) → IsIdle old → worlds.forgets old number n new → IsIdle new
forgets old new number n idle f = forgets_idle f.1.renewed new number n f.0 (λ id. flights_renewed old f.1.renewed f.1.room id ∙ idle id) f.1.forgets

pub finds : (old new : World) (fh : ℕ) (file : Option OpenFile) → IsIdle old → worlds.finds old fh file new → IsIdle new
finds old new fh file idle found = subst IsIdle (sym found.1) idle
