use Rattle.std.proofs.Common.{List, ℕ, subst, ◌∙◌}
use Rattle.engine.proofs.ByClass.{confirmed}
use Rattle.engine.proofs.outlet.reply_done.Goals as goal

pub returns : goal.returns
returns g c =
    subst (λ (bytes : List ℕ). g.L.Outlet.sends c.args.link.now bytes c.header.result c.header.new.self) (c.error_frame.ensures.bytes ∙ confirmed c.args.unique) c.header.ensures
