-- A call of a memory tree, with its counts.
use Rattle.std.proofs.Common.{ℕ, ◌≡◌, List, Bool, ap, ◌∙◌}
use Rattle.backing.specs.declared.entries.TreeEntry.{TreeEntry}
use Rattle.backing.specs.declared.plans.Plan.{Plan}
use Rattle.backing.specs.declared.told.Told.{Told}
use Rattle.backing.specs.Tree.{IsTree}
use Rattle.backing.specs.Calls.{Asked}
use Rattle.backing.specs.Device.{counted, one_if}
use Rattle.backing.specs.Memory.{Memory, MakesCall, Treated, memory_tree, next_device}

same_memory : (entries : List TreeEntry) (made made' : ℕ) (plans plans' : List Plan) (failed failed' : ℕ) → made ≡ made' → plans ≡ plans' → failed ≡ failed'
    → (let m : Memory = record { entries = entries; made = made; plans = plans; failed = failed } in m) ≡ record { entries = entries; made = made'; plans = plans'; failed = failed' }
same_memory entries made made' plans plans' failed failed' e f g =
    ap (λ (n : ℕ). let m : Memory = record { entries = entries; made = n; plans = plans; failed = failed } in m) e
    ∙ (ap (λ (ps : List Plan). let m : Memory = record { entries = entries; made = made'; plans = ps; failed = failed } in m) f
    ∙ ap (λ (n : ℕ). let m : Memory = record { entries = entries; made = made'; plans = plans'; failed = n } in m) g)

pub made_call : (old new : Memory) (call : Asked) (told : Told)
    → Treated (memory_tree old) (next_device old.plans old.made) call told (memory_tree new) → IsTree (memory_tree old) → IsTree (memory_tree new)
    → new.made ≡ counted old.made 1 → new.plans ≡ old.plans → new.failed ≡ counted old.failed (one_if told.failed)
    → MakesCall old call told new
made_call old new call told treated was is made plans failed = record {
  gives = record {
    device = treated.device;
    treats = treated.treats;
    performs = treated.performs;
    kept = same_memory new.entries new.made (counted old.made 1) new.plans old.plans new.failed _ made plans (failed ∙ ap (λ (b : Bool). counted old.failed (one_if b)) treated.failed);
    old_is_tree = was;
    new_is_tree = is;
  };
  failed = treated.failed;
}
