use Rattle.std.proofs.Common.{◌+◌, ◌≡◌, ◌++◌, true, [], ◌∷◌, length, get_or, arith, sym, ap, ◌∙◌, subst}
use Rattle.std.proofs.lemmas.Bool.{false≢true}
use Rattle.paths.specs.Prefixes.{Names, is_prefix}
use Rattle.holds.proofs.Under.{under_begins, under_is, under_last, under_length}
use Rattle.holds.proofs.names_under.is_under.Goals as goal

pub returns-then-names-above : goal.returns-then-names-above
returns-then-names-above c = (
  λ bad. absurd (false≢true bad),
  λ is.
      let long = under_length c.args.path.now c.args.parent.now c.args.name.now is in
      let size = ap (λ (p : Names). length p) c.names-names.ensures in
      absurd (omega (arith, long, size, c.len-above.ensures, c.if-names-above.true)),
)

pub returns-then-names-above-2 : goal.returns-then-names-above-2
returns-then-names-above-2 c = (
  λ bad. absurd (false≢true bad),
  λ is.
      let long = under_length c.args.path.now c.args.parent.now c.args.name.now is in
      let size = ap (λ (p : Names). length p) c.names-names.ensures in
      absurd (c.if-names-above-2.true (omega (arith, long, size, c.len-above.ensures))),
)

pub returns-then-not-is_prefix_of : goal.returns-then-not-is_prefix_of
returns-then-not-is_prefix_of c = (
  λ bad. absurd (false≢true bad),
  λ is.
      let begins : is_prefix c.args.parent.now c.args.path.now ≡ true = under_begins c.args.path.now c.args.parent.now c.args.name.now is in
      absurd (false≢true (sym c.if-not-is_prefix_of.true ∙ (c.is_prefix_of.ensures ∙ begins))),
)

pub returns : goal.returns
returns c =
    let path = c.args.path.now in
    let up = c.args.parent.now in
    let x = c.index-names-above.result in
    let size = ap (λ (p : Names). length p) c.names-names.ensures in
    let long : length path ≡ length up + 1 = omega (arith, size, c.len-above.ensures, c.if-names-above.false, c.if-names-above-2.false) in
    let begins : is_prefix up path ≡ true = sym c.is_prefix_of.ensures ∙ c.if-not-is_prefix_of.false in
    let read : x ≡ get_or path (length up) x =
    subst (λ n. x ≡ get_or path n x) c.len-above.ensures (subst (λ (p : Names). x ≡ get_or p c.len-above.result x) c.names-names.ensures c.index-names-above.is) in (
      λ h. under_is path up x long begins read ∙ ap (λ z. up ++ z ∷ []) (c.is.ensures.0 h),
      λ is. c.is.ensures.1 (under_last path up c.args.name.now x is read),
    )
