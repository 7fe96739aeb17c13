use Rattle.std.proofs.Common.{◌++◌, ◌∷◌, []}
use Rattle.std.proofs.lemmas.Bool.{false≢true}
use Rattle.table_requests.proofs.CountedHolds.{none_counted}
use Rattle.table_requests.proofs.held_paths.is_counted_exclusive.Goals as goal

pub returns-then-numbers-eq0 : goal.returns-then-numbers-eq0
returns-then-numbers-eq0 c = (
  λ bad. absurd (false≢true bad),
  λ some. absurd (none_counted c.args.numbers.now c.requires (c.args.parent.now ++ c.args.name.now ∷ []) c.if-numbers-eq0.true some),
)
