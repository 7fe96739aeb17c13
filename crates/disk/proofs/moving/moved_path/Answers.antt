use Rattle.std.proofs.Common.{◌≡◌, length, sym, ap, ◌∙◌, arith}
use Rattle.paths.specs.Prefixes.{Names}
use Rattle.paths.proofs.PrefixLemmas.{is_prefix-length}
use Rattle.disk.proofs.moving.moved_path.Goals as goal

pub split_at-requires : goal.split_at-requires
split_at-requires c =
    let prefix = is_prefix-length c.args.from.now c.args.path.now (sym c.is_prefix_of.ensures ∙ c.if-not-is_prefix_of.false) in
    let same : length c.names.result.now ≡ length c.args.path.now = ap (λ (p : Names). length p) c.names.ensures in
    omega arith
