use Rattle.std.proofs.Common.{ℕ, ◌≡◌, ◌++◌, true, Some, None, length, drop, sym, ap, ◌∙◌, arith}
use Rattle.std.proofs.lemmas.Bool.{cond-true}
use Rattle.paths.specs.Prefixes.{Names, is_prefix}
use Rattle.paths.proofs.PrefixLemmas.{is_prefix-length}
use Rattle.backing.proofs.moving.new_path.Goals as goal

pub split_at-requires : goal.split_at-requires
split_at-requires c =
    let prefix = is_prefix-length c.args.from.now c.args.path.now (sym c.is_prefix_of.ensures ∙ c.if-not-is_prefix_of.false) in
    let same : length c.names.result.now ≡ length c.args.path.now = ap (λ (p : Names). length p) c.names.ensures in
    omega arith

pub returns : goal.returns
returns c =
    let s = c.args.from.now in
    let t = c.args.to.now in
    let p = c.args.path.now in
    let below = c.split_at.result.1.now in
    let yes : is_prefix s p ≡ true = sym c.is_prefix_of.ensures ∙ c.if-not-is_prefix_of.false in
    let rest : below ≡ drop (length s) p = c.split_at.ensures.back ∙ (ap (λ (n : ℕ). drop n c.names.result.now) c.len.ensures ∙ ap (λ (q : Names). drop (length s) q) c.names.ensures) in
    let whole : c.in_ok-moved.moved ≡ t ++ drop (length s) p = c.in_ok-moved.ensures ∙ (ap (λ (q : Names). q ++ below) c.names-2.ensures ∙ ap (λ (q : Names). t ++ q) rest) in
    ap (λ (q : Names). Some q) whole ∙ sym (cond-true (is_prefix s p) (Some (t ++ drop (length s) p)) None yes)
