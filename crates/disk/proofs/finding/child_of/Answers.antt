use Rattle.std.proofs.Common.{◌≡◌, ◌∷◌, [], length, drop, sym, ap, ◌∙◌, arith}
use Rattle.std.proofs.lemmas.Bool.{true≢false}
use Rattle.paths.specs.Prefixes.{Names, is_prefix}
use Rattle.paths.proofs.PrefixLemmas.{is_prefix-append, is_prefix-length}
use Rattle.disk.proofs.Naming.{one_longer}
use Rattle.disk.proofs.finding.child_of.Goals as goal

pub returns-then-not-is_prefix_of-clause-none : goal.returns-then-not-is_prefix_of-clause-none
returns-then-not-is_prefix_of-clause-none c = λ name e.
    true≢false (sym (is_prefix-append c.args.folder.now (name ∷ [])) ∙ (ap (λ (p : Names). is_prefix c.args.folder.now p) (sym e) ∙ (sym c.is_prefix_of.ensures ∙ c.if-not-is_prefix_of.true)))

pub split_at-requires : goal.split_at-requires
split_at-requires c =
    let prefix = is_prefix-length c.args.folder.now c.args.path.now (sym c.is_prefix_of.ensures ∙ c.if-not-is_prefix_of.false) in
    let same : length c.names.result.now ≡ length c.args.path.now = ap (λ (p : Names). length p) c.names.ensures in
    omega arith

pub returns-then-below-eq1-clause-some : goal.returns-then-below-eq1-clause-some
returns-then-below-eq1-clause-some c =
    let folder = c.args.folder.now in
    let below = c.split_at.result.1.now in
    let rest : below ≡ drop (length folder) c.args.path.now = c.split_at.ensures.back ∙ (ap (λ n. drop n c.names.result.now) c.len.ensures ∙ ap (λ (q : Names). drop (length folder) q) c.names.ensures) in
    one_longer folder c.args.path.now below c.index-below-0.result (sym c.is_prefix_of.ensures ∙ c.if-not-is_prefix_of.false) rest c.if-below-eq1.true c.index-below-0.is
