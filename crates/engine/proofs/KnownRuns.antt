-- A run of calls of a known tree.
use Rattle.std.proofs.Common.{ℕ, List, [], ◌∷◌, Option, sym, ap, ◌∙◌}
use Rattle.backing.specs.Calls.{Asked}
use Rattle.backing.specs.Device.{Counted, counted, faulty}
use Rattle.backing.specs.KnownTreeLemmas.{counted_none, counted_on}
use Rattle.backing.specs.Tree.{Tree}
use Rattle.backing.specs.declared.call.Answer.{Answer}
use Rattle.engine.specs.Serving.{Makes}
use Rattle.ops.specs.Scripts.{Made}
use Rattle.engine.specs.Known.{KnownRun, faults_in}

pub known_run : {C : Type 0} (gives : C → Asked → Answer → C → Type 0) (limit : Option ℕ) (tree_of : C → Tree) (faults : C → ℕ)
    → ((old new : C) (call : Asked) (answer : Answer) → gives old call answer new → Counted limit (tree_of old) (faults old) call answer (tree_of new) (faults new))
    → (old new : C) (made : List Made) → Makes gives old made new → KnownRun limit tree_of faults old made new
known_run gives limit tree_of faults knows old new [] makes = record {
  devices = [];
  on_tree = ap tree_of makes;
  counts = ap faults makes ∙ sym (counted_none (faults old));
}
known_run gives limit tree_of faults knows old new (made ∷ more) makes =
    let first = knows old makes.0 made.call made.answer makes.1 in
    let rest = known_run gives limit tree_of faults knows makes.0 new more makes.2 in
    record {
      devices = first.0 ∷ rest.devices;
      on_tree = (tree_of makes.0, first.1, rest.on_tree);
      counts = rest.counts ∙ (ap (λ (n : ℕ). counted n (faults_in rest.devices)) first.2 ∙ counted_on (faults old) (faulty first.0) (faults_in rest.devices));
    }
