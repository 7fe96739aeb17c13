use Rattle.std.proofs.Common.{ℕ, ◌≡◌, ◌+◌, ◌≤◌, ◌<◌, true, false, Some, None, sym, ap, ◌∙◌, subst, arith}
use Rattle.std.proofs.lemmas.Option.{none-some, same_Some}
use Rattle.tree.specs.declared.nodes.Node.{Node}
use Rattle.tree.specs.Places.{Lookup, at_in, Leads}
use Rattle.table.specs.Leftovers.{IsHidden, IsMarked}
use Rattle.table.proofs.Leaving.{left_push, left_skip}
use Rattle.table.proofs.leftover.add_leftover.Goals as goal

no_node : (at : Lookup) (n : ℕ) → at n ≡ None → IsMarked at n → ⊥
no_node at n none mark = none-some mark.node (sym none ∙ mark.here)

no_mark : (at : Lookup) (n : ℕ) (x : Node) → at n ≡ Some x → (IsHidden x → ⊥) → IsMarked at n → ⊥
no_mark at n x here plain mark = plain (subst IsHidden (sym (same_Some x mark.node (sym here ∙ mark.here))) mark.hidden)

between : (number n : ℕ) → number ≤ n → n < number + 1 → number ≡ n
between number n le less = omega (arith, le, less)

pub returns-in_default : goal.returns-in_default
returns-in_default c =
    let at = at_in c.args.tree.now in
    let none : at c.args.number ≡ None = sym c.in_default.ensures.found in
    left_skip at c.args.number (c.args.number + 1) c.args.paths.now.items (omega arith) (λ n le less mark. no_node at c.args.number none (subst (IsMarked at) (sym (between c.args.number n le less)) mark)) c.requires

pub returns-then-not-is_hidden : goal.returns-then-not-is_hidden
returns-then-not-is_hidden c =
    let at = at_in c.args.tree.now in
    let x = c.in-Some.node.now in
    let stood : at c.args.number ≡ Some x = sym c.in-Some.ensures.found in
    let plain : IsHidden x → ⊥ = λ is. let bad : false ≡ true = sym c.if-not-is_hidden.true ∙ c.is_hidden.ensures.1 is in cc in
    left_skip at c.args.number (c.args.number + 1) c.args.paths.now.items (omega arith) (λ n le less mark. no_mark at c.args.number x stood plain (subst (IsMarked at) (sym (between c.args.number n le less)) mark)) c.requires

pub unreachable-requires : goal.unreachable-requires
unreachable-requires c =
    let at = at_in c.args.tree.now in
    let x = c.in-Some.node.now in
    let stood : at c.args.number ≡ Some x = sym c.in-Some.ensures.found in
    let hidden = c.is_hidden.ensures.0 c.if-not-is_hidden.false in
    let leads : Leads at c.args.number = c.at.ensures.tree.reached c.args.number hidden.key.parent hidden.key.name (x, stood, hidden.named) in
    (rw c.in_default-2.is at c.in_ok-path.ensures.none) leads

pub returns : goal.returns
returns c =
    let at = at_in c.args.tree.now in
    let x = c.in-Some.node.now in
    let stood : at c.args.number ≡ Some x = sym c.in-Some.ensures.found in
    let leads = rw c.in-Some-2.is at c.in_ok-path.ensures.some in
    rw c.in_ok-push.ensures.items (left_push at c.args.number c.args.paths.now.items c.in-Some-2.path (record { node = x; here = stood; hidden = c.is_hidden.ensures.0 c.if-not-is_hidden.false }) leads c.requires)
