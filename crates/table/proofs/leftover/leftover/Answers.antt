use Rattle.std.proofs.Common.{ℕ, ◌+◌, ◌<◌, ◌≡◌, None, [], arith, sym, ◌∙◌, subst}
use Rattle.std.proofs.lemmas.Option.{none-some}
use Rattle.tree.specs.Places.{at_in}
use Rattle.table.proofs.Leaving.{left_all, left_none, left_skip}
use Rattle.table.proofs.leftover.leftover.Goals as goal

zero_is : (n : ℕ) → n < 1 → 0 ≡ n
zero_is n less = omega (arith, less)

pub loop-next-init : goal.loop-next-init
loop-next-init c none =
    let at = at_in c.args.state.now.tree in
    rw c.new-paths.ensures.items (left_skip at 0 1 [] (omega arith) (λ n le less mark. none-some mark.node (sym (subst (λ k. at k ≡ None) (zero_is n less) none) ∙ mark.here)) (left_none at))

pub add_leftover-requires : goal.add_leftover-requires
add_leftover-requires c =
    let at = at_in c.args.state.now.tree in
    let next = c.in-Some.ensures.some in
    left_skip at (c.loop-next.number + 1) c.in-Some.next c.loop-next.paths.items (omega (arith, next.above)) (λ n le less mark. none-some mark.node (sym (next.least n (omega (arith, le)) less) ∙ mark.here)) (c.loop-next.invariant c.in-Some.ensures.positive)

pub returns : goal.returns
returns c =
    let at = at_in c.args.state.now.tree in
    rw c.from_vec.ensures (left_all at c.loop-next.number c.loop-next.paths.items c.in_default.ensures.none (c.loop-next.invariant c.in_default.ensures.positive))
