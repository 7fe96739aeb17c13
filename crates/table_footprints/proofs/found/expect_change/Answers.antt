use Rattle.std.proofs.Common.{◌≤◌, length, sym, subst}
use Rattle.std.proofs.lemmas.Result.{on_ok_weaker}
use Rattle.table_footprints.specs.declared.footprints.ChangeKind.{ChangeKind}
use Rattle.table_footprints.specs.Gatherings.{AreEnough, MayChange}
use Rattle.table_footprints.proofs.Agreeing.{may_exchange, may_move}
use Rattle.table_footprints.proofs.found.expect_change.Goals as goal

pub returns-in-Moves-clause-ok : goal.returns-in-Moves-clause-ok
returns-in-Moves-clause-ok c =
    let ps = c.args.paths.now in
    let two : 2 ≤ length ps = subst (λ (k : ChangeKind). AreEnough k (length ps)) c.in-Moves.is c.requires in
    on_ok_weaker c.expect_movable.result (λ can. subst (λ (k : ChangeKind). MayChange k ps) (sym c.in-Moves.is) (may_move ps c.index-paths-0.result c.index-paths-1.result two c.index-paths-0.is c.index-paths-1.is can)) c.expect_movable.ensures.ok

pub returns-in-Exchanges-clause-ok : goal.returns-in-Exchanges-clause-ok
returns-in-Exchanges-clause-ok c =
    let ps = c.args.paths.now in
    let two : 2 ≤ length ps = subst (λ (k : ChangeKind). AreEnough k (length ps)) c.in-Exchanges.is c.requires in
    on_ok_weaker c.expect_exchangeable.result (λ can. subst (λ (k : ChangeKind). MayChange k ps) (sym c.in-Exchanges.is) (may_exchange ps c.index-paths-0-in-Exchanges.result c.index-paths-1-in-Exchanges.result two c.index-paths-0-in-Exchanges.is c.index-paths-1-in-Exchanges.is can)) c.expect_exchangeable.ensures.ok
