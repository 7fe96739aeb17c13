use Rattle.std.proofs.Common.{◌≡◌, ◌∙◌, sym}
use Rattle.ledger.specs.Shares.{plus}
use Rattle.ledger.specs.Sums.{totals_of, totals_over}
use Rattle.table_steps.proofs.StillUndisturbed.{forget_calm}
use Rattle.table_steps.proofs.Growing.{ledgers_grown}
use Rattle.table_steps.specs.Kept.{world_of}
use Rattle.table_steps.specs.Steps.{gained}
use Rattle.table.proofs.Closing.{gains_renewed, totals_renewed, whole_closed}
use Rattle.table.proofs.Longer.{length_longer, totals_longer, gained_longer}
use Rattle.table.proofs.table.Table.forget.Goals as goal

pub post_since-requires-clause-within : goal.post_since-requires-clause-within
post_since-requires-clause-within g c =
    rw c.made-made.ensures (length_longer (world_of c.make_room.new.self) (world_of c.forget-amount.new.self) (ledgers_grown.forget (world_of c.make_room.new.self) c.args.number c.args.n c.forget-amount.result (world_of c.forget-amount.new.self) c.forget-amount.ensures.forgets))

pub post_since-requires-clause-so_far : goal.post_since-requires-clause-so_far
post_since-requires-clause-so_far g c =
    rw c.made-made.ensures (totals_longer (world_of c.make_room.new.self) (world_of c.forget-amount.new.self) (ledgers_grown.forget (world_of c.make_room.new.self) c.args.number c.args.n c.forget-amount.result (world_of c.forget-amount.new.self) c.forget-amount.ensures.forgets) c.self.inside.book
    (c.self.invariant.1 ∙ sym (totals_renewed (world_of c.self.inside.state) (world_of c.make_room.new.self) c.make_room.ensures.makes)))

pub returns-clause-forgets : goal.returns-clause-forgets
returns-clause-forgets g c = rw (← c.self.view_is) (record { renewed = world_of c.make_room.new.self; room = c.make_room.ensures.makes; forgets = c.forget-amount.ensures.forgets })

pub returns-clause-gains : goal.returns-clause-gains
returns-clause-gains g c =
    rw (← c.self.view_is) (gains_renewed (world_of c.self.inside.state) (world_of c.make_room.new.self) (world_of c.forget-amount.new.self) 1 c.args.share.now c.post_since.new.share c.make_room.ensures.makes
    (record {
      lawful = c.attest.ensures;
      grows = gained_longer (world_of c.make_room.new.self) (world_of c.forget-amount.new.self) (ledgers_grown.forget (world_of c.make_room.new.self) c.args.number c.args.n c.forget-amount.result (world_of c.forget-amount.new.self) c.forget-amount.ensures.forgets);
      share = rw c.made-made.ensures at c.post_since.ensures.share;
    }))

pub attest-requires : goal.attest-requires
attest-requires g c =
    let mid = whole_closed c.self.inside.state c.make_room.new.self c.self.invariant.0 c.make_room.ensures.rest c.make_room.ensures.kept in
    record {
      kept = c.forget-amount.ensures.kept;
      undisturbed = forget_calm c.make_room.new.self c.forget-amount.new.self mid.kept c.forget-amount.ensures.kept mid.undisturbed c.args.number c.args.n c.forget-amount.result c.forget-amount.ensures.forgets;
    }

pub invariant_of-self : goal.invariant_of-self
invariant_of-self g c =
    let mid = whole_closed c.self.inside.state c.make_room.new.self c.self.invariant.0 c.make_room.ensures.rest c.make_room.ensures.kept in (
      record {
        kept = c.forget-amount.ensures.kept;
        undisturbed = forget_calm c.make_room.new.self c.forget-amount.new.self mid.kept c.forget-amount.ensures.kept mid.undisturbed c.args.number c.args.n c.forget-amount.result c.forget-amount.ensures.forgets;
      },
      c.post_since.ensures.book,
    )
