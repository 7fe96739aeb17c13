use Rattle.std.proofs.Common.{[], ◌∷◌}
use Rattle.shared_history.proofs.history.History.record.Given as goal

-- what is added is the entry
abbrev pub ghosts-add : goal.ghosts-add
ghosts-add g a = record { entries = a.entry.now ∷ [] }
