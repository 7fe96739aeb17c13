use Rattle.std.proofs.Common.{ap, subst}
use Rattle.backing.specs.Tree.{Tree}
use Rattle.backing.specs.Memory.{Memory, PutsSpecial, memory_tree}
use Rattle.backing.specs.Entries.{tree_of}
use Rattle.backing.proofs.memory.MemTree.put_special.Goals as goal

pub returns-clause-puts : goal.returns-clause-puts
returns-clause-puts c = subst (λ (at : Tree). PutsSpecial at c.args.path.now c.args.special c.put_special_in.result (tree_of c.put_special_in.new.entries.items)) (ap (λ (m : Memory). memory_tree m) c.self.view_is) c.put_special_in.ensures.puts
