use Rattle.std.proofs.Common.{ap, subst}
use Rattle.backing.specs.Tree.{Tree}
use Rattle.backing.specs.Memory.{Memory, PutsFile, memory_tree}
use Rattle.backing.specs.Entries.{tree_of}
use Rattle.backing.proofs.memory.MemTree.put_file.Goals as goal

pub returns-clause-puts : goal.returns-clause-puts
returns-clause-puts c = subst (λ (at : Tree). PutsFile at c.args.path.now c.args.bytes.now c.put_file_in.result (tree_of c.put_file_in.new.entries.items)) (ap (λ (m : Memory). memory_tree m) c.self.view_is) c.put_file_in.ensures.puts
