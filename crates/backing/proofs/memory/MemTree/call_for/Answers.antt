use Rattle.std.proofs.Common.{◌≡◌, ◌∙◌, ℕ, Bool, ap, sym, subst}
use Rattle.backing.specs.declared.call.Answer.{Answer}
use Rattle.backing.specs.declared.told.Told.{Told}
use Rattle.backing.specs.Calls.{memory_limit, Asked, asked}
use Rattle.backing.specs.Device.{Performs, counted, one_if}
use Rattle.backing.specs.Memory.{Memory, MakesCall, memory_tree}
use Rattle.backing.specs.SharedTree.{CallsFor}
use Rattle.backing.proofs.memory.MemTree.call_for.Goals as goal

-- a call of the tree, counted once more by the handle
counted_for : (old new : Memory) (before after : ℕ) (call : Asked) (told : Told) (answer : Answer)
    → MakesCall old call told new → answer ≡ told.answer → after ≡ counted before (one_if told.failed) → CallsFor old before call answer new after
counted_for old new before after call told answer makes is count = record {
  gives = record {
    device = makes.gives.device;
    treats = makes.gives.treats;
    performs = subst (λ (a : Answer). Performs memory_limit (memory_tree old) makes.gives.device call a (memory_tree new)) (sym is) makes.gives.performs;
    kept = makes.gives.kept;
    old_is_tree = makes.gives.old_is_tree;
    new_is_tree = makes.gives.new_is_tree;
  };
  counts = count ∙ ap (λ (b : Bool). counted before (one_if b)) makes.failed;
}

pub returns : goal.returns
returns c =
    subst (λ (n : ℕ). CallsFor c.args.self.now n (asked c.args.call) c.into_answer.result c.make_call.new.self c.into_answer.new.failures) c.failures.view_is
    (counted_for c.args.self.now c.make_call.new.self c.failures.inside.count c.into_answer.new.failures (asked c.args.call) c.make_call.result c.into_answer.result c.make_call.ensures c.into_answer.ensures.answer c.into_answer.ensures.count)
