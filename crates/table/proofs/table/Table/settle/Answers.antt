use Rattle.std.proofs.Common.{ℕ, ◌≡◌, ◌∙◌, subst, sym}
use Rattle.ledger.specs.Shares.{plus}
use Rattle.ledger.specs.Sums.{totals_of, totals_over}
use Rattle.table_steps.proofs.StillUndisturbed.{settle_calm}
use Rattle.table_steps.proofs.Growing.{ledgers_grown}
use Rattle.table_steps.specs.Kept.{world_of}
use Rattle.table_steps.specs.Steps.{MakesRoom, gained}
use Rattle.table_steps.specs.World.{most_posted}
use Rattle.table.proofs.Closing.{gains_renewed, totals_renewed, whole_closed}
use Rattle.table.proofs.Longer.{length_longer, totals_longer, gained_longer}
use Rattle.table.proofs.table.Table.settle.Goals as goal

pub post_since-requires-clause-within : goal.post_since-requires-clause-within
post_since-requires-clause-within g c =
    rw c.made-made.ensures (length_longer (world_of c.make_room_for.new.self) (world_of c.settle-settled.new.self) (ledgers_grown.settle (world_of c.make_room_for.new.self) c.args.answered c.args.taken c.settle-settled.result (world_of c.settle-settled.new.self) c.settle-settled.ensures.settles))

pub post_since-requires-clause-so_far : goal.post_since-requires-clause-so_far
post_since-requires-clause-so_far g c =
    rw c.made-made.ensures (totals_longer (world_of c.make_room_for.new.self) (world_of c.settle-settled.new.self) (ledgers_grown.settle (world_of c.make_room_for.new.self) c.args.answered c.args.taken c.settle-settled.result (world_of c.settle-settled.new.self) c.settle-settled.ensures.settles) c.self.inside.book
    (c.self.invariant.1 ∙ sym (totals_renewed (world_of c.self.inside.state) (world_of c.make_room_for.new.self) c.make_room_for.ensures.makes)))

pub returns-clause-settles : goal.returns-clause-settles
returns-clause-settles g c = rw (← c.self.view_is) (record { renewed = world_of c.make_room_for.new.self; room = (subst (λ (k : ℕ). MakesRoom (world_of c.self.inside.state) (most_posted (world_of c.self.inside.state).flights k) (world_of c.make_room_for.new.self)) c.id.ensures c.make_room_for.ensures.makes); settles = c.settle-settled.ensures.settles })

pub returns-clause-gains : goal.returns-clause-gains
returns-clause-gains g c =
    rw (← c.self.view_is) (gains_renewed (world_of c.self.inside.state) (world_of c.make_room_for.new.self) (world_of c.settle-settled.new.self) (most_posted (world_of c.self.inside.state).flights c.args.answered.id) c.args.share.now c.post_since.new.share (subst (λ (k : ℕ). MakesRoom (world_of c.self.inside.state) (most_posted (world_of c.self.inside.state).flights k) (world_of c.make_room_for.new.self)) c.id.ensures c.make_room_for.ensures.makes)
    (record {
      lawful = c.attest.ensures;
      grows = gained_longer (world_of c.make_room_for.new.self) (world_of c.settle-settled.new.self) (ledgers_grown.settle (world_of c.make_room_for.new.self) c.args.answered c.args.taken c.settle-settled.result (world_of c.settle-settled.new.self) c.settle-settled.ensures.settles);
      share = rw c.made-made.ensures at c.post_since.ensures.share;
    }))

pub attest-requires : goal.attest-requires
attest-requires g c =
    let mid = whole_closed c.self.inside.state c.make_room_for.new.self c.self.invariant.0 c.make_room_for.ensures.rest c.make_room_for.ensures.kept in
    record {
      kept = c.settle-settled.ensures.kept;
      undisturbed = settle_calm c.make_room_for.new.self c.settle-settled.new.self mid.kept c.settle-settled.ensures.kept mid.undisturbed c.args.answered c.args.taken c.settle-settled.result c.settle-settled.ensures.settles;
    }

pub invariant_of-self : goal.invariant_of-self
invariant_of-self g c =
    let mid = whole_closed c.self.inside.state c.make_room_for.new.self c.self.invariant.0 c.make_room_for.ensures.rest c.make_room_for.ensures.kept in (
      record {
        kept = c.settle-settled.ensures.kept;
        undisturbed = settle_calm c.make_room_for.new.self c.settle-settled.new.self mid.kept c.settle-settled.ensures.kept mid.undisturbed c.args.answered c.args.taken c.settle-settled.result c.settle-settled.ensures.settles;
      },
      c.post_since.ensures.book,
    )
