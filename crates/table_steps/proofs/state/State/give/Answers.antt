use Rattle.table_steps.proofs.Giving.{alive, give_enters, give_kept, give_more, room_to_create}
use Rattle.table_steps.proofs.state.State.give.Goals as goal

pub enter-entered-requires-clause-node_room : goal.enter-entered-requires-clause-node_room
enter-entered-requires-clause-node_room c = room_to_create c.args.self.now c.args.id c.args.keys.key c.requires.may

pub returns-clause-enters : goal.returns-clause-enters
returns-clause-enters c =
    give_enters c.args.self.now c.args.id c.args.keys.key c.requires.may c.requires.kept c.enter-entered.result c.enter-entered.new.tree c.enter-entered.new.ledger c.pin.new.self
    c.enter-entered.ensures.law c.enter-entered.ensures.enters c.enter-entered.ensures.more (c.pin.ensures.pins c.requires.may.flight c.requires.may.here) c.pin.ensures.law

pub returns-clause-more : goal.returns-clause-more
returns-clause-more c =
    give_more c.args.self.now c.args.id c.args.keys.key c.requires.may c.requires.kept c.enter-entered.result c.enter-entered.new.tree c.enter-entered.new.ledger c.pin.new.self
    c.enter-entered.ensures.law c.enter-entered.ensures.enters c.enter-entered.ensures.more (c.pin.ensures.pins c.requires.may.flight c.requires.may.here) c.pin.ensures.law

pub returns-clause-alive : goal.returns-clause-alive
returns-clause-alive c =
    alive c.args.self.now c.args.id c.args.keys.key c.requires.may c.requires.kept c.enter-entered.result c.enter-entered.new.tree c.enter-entered.new.ledger c.pin.new.self
    c.enter-entered.ensures.law c.enter-entered.ensures.enters c.enter-entered.ensures.more (c.pin.ensures.pins c.requires.may.flight c.requires.may.here) c.pin.ensures.law

pub returns-clause-kept : goal.returns-clause-kept
returns-clause-kept c =
    give_kept c.args.self.now c.args.id c.args.keys.key c.requires.may c.requires.kept c.enter-entered.result c.enter-entered.new.tree c.enter-entered.new.ledger c.pin.new.self
    c.enter-entered.ensures.law c.enter-entered.ensures.enters c.enter-entered.ensures.more (c.pin.ensures.pins c.requires.may.flight c.requires.may.here) c.pin.ensures.law
