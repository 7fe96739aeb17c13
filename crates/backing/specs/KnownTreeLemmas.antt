-- What each directory's calls say about its count of failures, and about its tree.
use Rattle.std.proofs.Common.{ℕ, ◌≡◌, ◌+◌, ap, ◌∙◌, inl, inr, arith}
use Rattle.backing.specs.declared.call.Answer.{Answer}
use Rattle.backing.specs.Tree.{Tree, IsTree}
use Rattle.backing.specs.Calls.{memory_limit, Asked}
use Rattle.backing.specs.Device.{Device, Sound, Before, Within, After, Performs, Counted, Counts, counted, faulty}
use Rattle.backing.specs.Memory.{Memory, Gives, memory_tree}
use Rattle.backing.specs.SharedTree.{Shows}

-- adding nothing
pub counted_none : (n : ℕ) → counted n 0 ≡ n
counted_none n = omega arith

-- adding twice
pub counted_on : (n a b : ℕ) → counted (counted n a) b ≡ counted n (a + b)
counted_on n a b = omega arith

known_counts : (old new : Tree) (before after : ℕ) (device : Device) (call : Asked) (answer : Answer) → Performs memory_limit old device call answer new → after ≡ counted before (faulty device) → Counts before answer after
known_counts old new before after Sound call answer performs count = inl (count ∙ counted_none before)
known_counts old new before after (Before errno) call answer performs count = inr (count, (errno, performs.0))
known_counts old new before after (Within errno) call answer performs count = inr (count, (errno, performs.0))
known_counts old new before after (After errno) call answer performs count = inr (count, (errno, performs.0))

pub memory_known : (old new : Memory) (call : Asked) (answer : Answer) → Gives old call answer new → Counted memory_limit (memory_tree old) old.failed call answer (memory_tree new) new.failed
memory_known old new call answer given = (given.device, given.performs, ap (λ (m : Memory). m.failed) given.kept)

pub memory_counts : (old new : Memory) (call : Asked) (answer : Answer) → Gives old call answer new → Counts old.failed answer new.failed
memory_counts old new call answer given = known_counts (memory_tree old) (memory_tree new) old.failed new.failed given.device call answer given.performs (ap (λ (m : Memory). m.failed) given.kept)

pub memory_stands : (old new : Memory) (call : Asked) (answer : Answer) → Gives old call answer new → IsTree (memory_tree old) × IsTree (memory_tree new)
memory_stands old new call answer given = (given.old_is_tree, given.new_is_tree)

pub shared_counts : (before after : ℕ) (call : Asked) (answer : Answer) → Shows before call answer after → Counts before answer after
shared_counts before after call answer shown =
    let gives = shown.made.gives in known_counts (memory_tree shown.old) (memory_tree shown.new) before after gives.device call answer gives.performs shown.made.counts
