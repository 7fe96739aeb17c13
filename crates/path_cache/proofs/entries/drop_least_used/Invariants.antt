use Rattle.std.proofs.Common.{◌≡◌, length, take}
use Rattle.path_cache.proofs.entries.drop_least_used.Given as goal

abbrev pub invariant-loop-entries : goal.invariant-loop-entries
invariant-loop-entries g l = (take l.most l.entries.entries ≡ take l.most l.fn.entries.entries) × (l.entries.cap ≡ l.fn.entries.cap)

abbrev pub decreases-loop-entries : goal.decreases-loop-entries
decreases-loop-entries g l = length l.entries.entries
