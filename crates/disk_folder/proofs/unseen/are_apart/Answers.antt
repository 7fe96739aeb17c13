use Rattle.std.proofs.Common.{◌∙◌, sym}
use Rattle.disk_folder.proofs.UnseenEnds.{apart_long}
use Rattle.disk_folder.proofs.unseen.are_apart.Goals as goal

pub returns-then-len : goal.returns-then-len
returns-then-len c = λ yes. let far = sym c.is_prefix_of.ensures ∙ c.if-is_prefix_of.false in record { not_into = far; not_over = apart_long c.args.from.now c.args.to.now (sym c.len.ensures ∙ (c.if-len.true ∙ c.len-2.ensures)) far }
