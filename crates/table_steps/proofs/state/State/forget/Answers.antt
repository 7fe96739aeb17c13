use Rattle.std.proofs.Common.{◌≤◌, arith, sym}
use Rattle.table_steps.proofs.Kept.{forget_pruned, forget_kept, forgets}
use Rattle.table_steps.proofs.state.State.forget.Goals as goal

pub sweep-requires : goal.sweep-requires
sweep-requires c =
    let x = c.in-Some.node.now in
    let fits : c.min-amount.result ≤ x.count = omega arith in
    forget_pruned c.args.self.now c.requires.kept c.args.number x (sym c.in-Some.ensures.found) c.min-amount.result c.if-amount-eq0.false fits c.set_count.new.self (c.set_count.ensures.writes x (sym c.in-Some.ensures.found)) c.set_count.ensures.tree

pub returns-clause-forgets : goal.returns-clause-forgets
returns-clause-forgets c =
    let x = c.in-Some.node.now in
    let fits : c.min-amount.result ≤ x.count = omega arith in
    forgets c.args.self.now c.requires.kept c.args.number x (sym c.in-Some.ensures.found) c.min-amount.result c.if-amount-eq0.false fits c.set_count.new.self (c.set_count.ensures.writes x (sym c.in-Some.ensures.found)) c.set_count.ensures.tree
    c.post.new.self c.sweep.new.tree c.post.ensures.made c.sweep.ensures.swept c.sweep.ensures.pruned c.args.n c.min-amount.ensures

pub returns-clause-kept : goal.returns-clause-kept
returns-clause-kept c =
    let x = c.in-Some.node.now in
    let fits : c.min-amount.result ≤ x.count = omega arith in
    forget_kept c.args.self.now c.requires.kept c.args.number x (sym c.in-Some.ensures.found) c.min-amount.result c.if-amount-eq0.false fits c.set_count.new.self (c.set_count.ensures.writes x (sym c.in-Some.ensures.found)) c.set_count.ensures.tree
    c.post.new.self c.sweep.new.tree c.post.ensures.made c.sweep.ensures.swept c.post.ensures.limit c.post.ensures.room (omega (arith, c.post.ensures.places)) c.sweep.ensures.pruned c.sweep.ensures.rest
