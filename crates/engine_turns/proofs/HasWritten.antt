-- More replies of a writer.
use Rattle.std.proofs.Common.{◌≡◌, ℕ, List, [], ◌++◌, map, flat_map, Option, Some, refl, sym, ap₂, ◌∙◌}
use Rattle.std.proofs.Math.Logic.{∥∥₁_map}
use Rattle.std.proofs.lemmas.Grind.{flat_map-append}
use Rattle.std.proofs.lemmas.List.{map-append}
use Rattle.handles.specs.Calls.{FolderCall}
use Rattle.table_shared.specs.Runs.{Call}
use Rattle.table_steps.specs.Answers.{Settlement}
use Rattle.engine.proofs.Runs.{chain_append}
use Rattle.engine.specs.declared.links.Sent.{Sent}
use Rattle.engine_turns.specs.TableCalls.{OnTable, idle, then_all}
use Rattle.engine_turns.specs.Batches.{Endings, WritesAll, WritesOne, Writing, endings}
use Rattle.engine_turns.specs.Turns.{Ending}
use Rattle.engine_turns.proofs.Answering.{and_more}
use Rattle.engine_turns.specs.Writes.{unsent, HasWritten}

module _ {L : Type 0} (sends : L → List ℕ → Sent → L → Type 0) where
  all_on : (old mid new : Writing L) (first next : Endings) → WritesAll sends old first mid → WritesAll sends mid next new
      → WritesAll sends old (endings (first.settled ++ next.settled) (first.folders ++ next.folders) (first.on_table ++ next.on_table)) new
  all_on old mid new first next a b = record {
    turns = a.turns ++ b.turns;
    chain = chain_append (WritesOne sends) old mid new a.turns b.turns a.chain b.chain;
    all_are = record {
      settled_are = ap₂ (λ (s t : List (Option Settlement)). s ++ t) a.all_are.settled_are b.all_are.settled_are ∙ sym (map-append (λ (e : Ending). e.settled) a.turns b.turns);
      folders_are = ap₂ (λ (s t : List FolderCall). s ++ t) a.all_are.folders_are b.all_are.folders_are ∙ sym (flat_map-append (λ (e : Ending). e.folders) a.turns b.turns);
      on_table_are = ap₂ (λ (s t : List Call). s ++ t) a.all_are.on_table_are b.all_are.on_table_are ∙ sym (flat_map-append (λ (e : Ending). e.on_table) a.turns b.turns);
    };
  }

  module _ (from : Option L) (senders : ℕ) where
    pub has_begun : (link : L) (on_table : OnTable) (now : Writing L) → from ≡ Some link → on_table ≡ idle senders → now ≡ unsent link senders → ∥ HasWritten sends from senders on_table now ∥₁
    has_begun link on_table now began nothing fresh = ∣ record {
      link = link;
      began = began;
      all = endings [] [] [];
      writes = record { turns = []; chain = fresh; all_are = record { settled_are = refl; folders_are = refl; on_table_are = refl } };
      calls_are = nothing;
    } ∣₁

    pub has_written_on : (before after : OnTable) (now next : Writing L) (all : Endings)
        → ∥ HasWritten sends from senders before now ∥₁ → after ≡ then_all before all.on_table → WritesAll sends now all next → ∥ HasWritten sends from senders after next ∥₁
    has_written_on before after now next all h calls w = ∥∥₁_map h (λ (k : HasWritten sends from senders before now). record {
      link = k.link;
      began = k.began;
      all = endings (k.all.settled ++ all.settled) (k.all.folders ++ all.folders) (k.all.on_table ++ all.on_table);
      writes = all_on (unsent k.link senders) now next k.all all k.writes w;
      calls_are = and_more (idle senders) before after k.all.on_table all.on_table k.calls_are calls;
    })
