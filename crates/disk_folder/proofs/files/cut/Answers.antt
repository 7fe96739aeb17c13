use Rattle.std.proofs.Common.{ℕ, List, ◌∙◌, drop, ap}
use Rattle.std.proofs.lemmas.List.{drop-take}
use Rattle.disk_folder.proofs.files.cut.Goals as goal

pub returns : goal.returns
returns c = c.behind.ensures ∙ (ap (λ (xs : List ℕ). drop 16 xs) c.truncate.ensures.items ∙ drop-take 16 c.args.count c.args.buffer.items)
