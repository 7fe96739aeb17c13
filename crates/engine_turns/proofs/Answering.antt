-- A job that was handled, and its reply.
use Rattle.std.proofs.Common.{◌≡◌, ℕ, false, List, [], ◌++◌, Option, Some, None, refl, sym, ap, ◌∙◌, append-nil, append_assoc, arith}
use Rattle.std.proofs.lemmas.Option.{none-some}
use Rattle.ledger.specs.Shares.{Part}
use Rattle.table_steps.specs.Answers.{Settlement}
use Rattle.terms.specs.declared.settings.Settings.{Settings}
use Rattle.engine.specs.Reference.{Offer}
use Rattle.engine.specs.Serving.{Behaviour}
use Rattle.engine.specs.declared.served.Served.{Served}
use Rattle.table_shared.specs.Runs.{Call}
use Rattle.engine_turns.specs.TableCalls.{OnTable, TurnEnd, left_in, then_all}
use Rattle.engine_turns.specs.Rights.{IsRight}
use Rattle.engine.specs.Batches.{bytes_of}
use Rattle.engine_turns.specs.ReplyBuffers.{bytes_in}
use Rattle.engine_turns.specs.Turns.{Means, MeetsJob, Met, Writes, means}
use Rattle.engine_turns.specs.declared.job.Job.{Job}
use Rattle.engine_turns.specs.declared.working.Turn.{Turn}
use Rattle.engine_turns.specs.declared.working.Turn.TheVariants.{Worked, Nothing}
use Rattle.engine.specs.declared.bytes.ReplyBytes.{ReplyBytes}

abbrev bytes_or : List ℕ → Option (List ℕ) → List ℕ
bytes_or d None = d
bytes_or d (Some bytes) = bytes

-- what is written is right
pub right_of : {C D : Type 0} (does : Behaviour C D) (settings : Settings) (job : Job) (old new : Means C D) (said : Option ReplyBytes) (turn_end : TurnEnd) (bytes : ReplyBytes)
    → MeetsJob does settings job old (record { said = bytes_in said; turn_end = turn_end }) new → said ≡ Some bytes → IsRight settings job (bytes_of bytes) (left_in turn_end)
right_of does settings job old new said turn_end bytes m is = by_offer m.turn.offer refl m.writes where
  by_offer : (o : Option Offer) → m.turn.offer ≡ o → Writes o (bytes_in said) → IsRight settings job (bytes_of bytes) (left_in turn_end)
  by_offer None e w = absurd (none-some (bytes_of bytes) (sym w ∙ ap bytes_in is))
  by_offer (Some offer) e w = record {
    turn = m.turn;
    before = old.on_table;
    turn_end = turn_end;
    after = new.on_table;
    handled = m.handled;
    offer = offer;
    offered = e;
    written = record { bytes_are = ap (bytes_or []) (sym (ap bytes_in is) ∙ w.0); sent = w.1 };
    left_is = refl;
  }

-- the share does not change if the reply is queued
pub met_on : {C D : Type 0} (does : Behaviour C D) (settings : Settings) (job : Job) (old : Means C D) (served : Served C D) (mid after : Part) (handled : OnTable) (met : Met)
    → MeetsJob does settings job old met (means served mid handled) → after.totals.entries ≡ mid.totals.entries → after.index ≡ mid.index → MeetsJob does settings job old met (means served after handled)
met_on does settings job old served mid after handled met m e i = record {
  turn = m.turn;
  handled = m.handled;
  draws = m.draws;
  writes = m.writes;
  gains = record { entries = (let g = m.gains.entries in omega arith); index = i ∙ m.gains.index; by_is = m.gains.by_is };
}

-- the settle that a turn reports
abbrev pub settled_by : Turn → Option Settlement
settled_by (Worked settled) = settled
settled_by Nothing = None

-- nothing more was done on the table
pub none_more : (on_table : OnTable) → on_table ≡ then_all on_table []
none_more on_table = ap (λ (cs : List Call). record { by = on_table.by; calls = cs }) (sym (append-nil on_table.calls))

-- further calls after those so far
pub and_more : (old mid new : OnTable) (first next : List Call) → mid ≡ then_all old first → new ≡ then_all mid next → new ≡ then_all old (first ++ next)
and_more old mid new first next m n = n ∙ (ap (λ (o : OnTable). then_all o next) m ∙ ap (λ (cs : List Call). record { by = old.by; calls = cs }) (append_assoc old.calls first next))
