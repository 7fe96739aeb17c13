use Rattle.std.proofs.Common.{◌≡◌, take, map}
use Rattle.backing.specs.declared.entries.TreeEntry.{TreeEntry}
use Rattle.backing.specs.Moves.{moved_path}
use Rattle.backing.proofs.moving.new_paths.Given as goal

abbrev pub invariant-loop-entry : goal.invariant-loop-entry
invariant-loop-entry l = l.paths.items ≡ map (λ (entry : TreeEntry). moved_path l.from l.to entry.path) (take l.entry-index l.entries)
