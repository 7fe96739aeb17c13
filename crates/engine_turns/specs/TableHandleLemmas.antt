-- The laws of a table handle.
use Rattle.std.proofs.Common.{ℕ, ℤ, ◌≡◌, ◌++◌, List, Option, Bool, to_z, of_z, w32, sym, ap, subst, ◌∙◌, arith}
use Rattle.std.proofs.lemmas.Int.{to_z-of_z}
use Rattle.std.proofs.lemmas.List.{append-nil}
use Rattle.table_files.specs.declared.data.OpenFile.{OpenFile}
use Rattle.table_requests.specs.declared.data.Want.{Want}
use Rattle.ledger.specs.Shares.{Part}
use Rattle.table_steps.specs.Answers.{Answer, Claim}
use Rattle.table_steps.specs.declared.data.Begin.TheVariants.{Busy, Go, Refused}
use Rattle.table_steps.specs.declared.data.Outcome.{Outcome}
use Rattle.table_shared.specs.Runs.{Call}
use Rattle.engine_turns.specs.TableCalls.{Known, known_table}

pub gains_on : (old mid new : Known) (before between after : Part) → known_table.gains old before mid between → known_table.gains mid between new after → known_table.gains old before new after
gains_on old mid new before between after first next = record {
  entries = let a = first.entries in let b = next.entries in omega arith;
  index = next.index ∙ first.index;
  by_is = next.by_is ∙ first.by_is;
}

pub waits : (old new : Known) (unique : ℕ) (want : Want) → known_table.is_idle old → known_table.begins old unique want Busy new → new ≡ old
waits old new unique want idle b = b.1 ∙ ap (λ (cs : List Call). record { turn_end = old.turn_end; on_table = record { by = old.on_table.by; calls = cs } }) (append-nil old.on_table.calls)

pub refuses : (old new : Known) (unique : ℕ) (want : Want) (errno : ℤ) → known_table.is_idle old → known_table.begins old unique want (Refused errno) new → (known_table.begins old unique want (Refused (to_z w32 (of_z w32 errno))) new) × known_table.is_idle new
refuses old new unique want errno idle b = (subst (λ (e : ℤ). known_table.begins old unique want (Refused e) new) (sym (to_z-of_z w32 errno b.0)) b, tt)

pub begins_free : (old new : Known) (unique : ℕ) (want : Want) (claim : Claim) → known_table.is_free old → known_table.begins old unique want (Go claim) new → known_table.is_free new
begins_free old new unique want claim free b = ap (λ (k : Known). k.turn_end) b.1 ∙ free

pub completes : (old mid fin new : Known) (unique : ℕ) (want : Want) (claim : Claim) (outcome : Outcome) (answer : Answer) (put : Option ℕ) (taken : Bool) → known_table.is_idle old
    → known_table.begins old unique want (Go claim) mid → known_table.finishes mid claim.id outcome answer fin → known_table.settles fin answer put taken new → known_table.knows answer × known_table.is_idle new
completes old mid fin new unique want claim outcome answer put taken idle b f s = (tt, tt)

pub forgets_idle : (old new : Known) (number n : ℕ) → known_table.is_idle old → known_table.forgets old number n new → known_table.is_idle new
forgets_idle old new number n idle f = tt

pub finds_idle : (old new : Known) (fh : ℕ) (file : Option OpenFile) → known_table.is_idle old → known_table.finds old fh file new → known_table.is_idle new
finds_idle old new fh file idle f = tt
