use Rattle.std.proofs.Common.{◌≡◌, ◌↔◌, IsTrue, rules}
use Rattle.std.specs.Prelude.{Any}
use Rattle.table_image.specs.declared.data.Hold.{Hold}
use Rattle.table_image.specs.Parts.{IsStored}
use Rattle.table.proofs.export.is_stored.Goals as goal

pub returns : goal.returns
unfolding IsStored
returns c =
    let each : IsTrue c.any.result ↔ Any (λ (h : Hold). h.path ≡ c.args.path.now) c.args.holds.now = search rules in
    each
