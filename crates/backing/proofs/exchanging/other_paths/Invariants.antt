use Rattle.std.proofs.Common.{◌≡◌, take, map}
use Rattle.backing.specs.declared.entries.TreeEntry.{TreeEntry}
use Rattle.backing.specs.Moves.{exchanged_path}
use Rattle.backing.proofs.exchanging.other_paths.Given as goal

abbrev pub invariant-loop-entry : goal.invariant-loop-entry
invariant-loop-entry l = l.paths.items ≡ map (λ (entry : TreeEntry). exchanged_path l.first l.second entry.path) (take l.entry-index l.entries)
