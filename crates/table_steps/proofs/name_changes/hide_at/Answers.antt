use Rattle.std.proofs.Common.{◌≡◌, ◌⊎◌, true, refl}
use Rattle.tree.specs.Places.{at_in}
use Rattle.table_steps.proofs.Marking.{alive_there, hide_children, hides_named}
use Rattle.table_steps.proofs.NewlyCut.{listed_then, listed_written}
use Rattle.table_steps.proofs.name_changes.hide_at.Goals as goal

pub returns-in-Some-clause-hides : goal.returns-in-Some-clause-hides
returns-in-Some-clause-hides c =
    hides_named (at_in c.args.tree.now) c.args.key.now c.args.candidate.key c.move_at.new.tree (c.move_at.ensures.moves c.requires.leads) c.in-Some.number c.in-Some.ensures.some c.set_hidden.new.self c.set_hidden.ensures.writes

pub returns-in-Some-clause-children : goal.returns-in-Some-clause-children
returns-in-Some-clause-children c =
    hide_children (at_in c.args.tree.now) c.args.key.now c.args.candidate.key c.move_at.new.tree (c.move_at.ensures.moves c.requires.leads) c.in-Some.number c.in-Some.ensures.some c.set_hidden.new.self c.set_hidden.ensures.writes
    (λ n. (n ≡ c.args.key.now.parent) ⊎ (n ≡ c.args.candidate.key.parent)) c.move_at.ensures.children

pub returns-in-Some-clause-listed : goal.returns-in-Some-clause-listed
returns-in-Some-clause-listed c =
    let there = alive_there (at_in c.args.tree.now) c.args.key.now c.args.candidate.key c.move_at.new.tree (c.move_at.ensures.moves c.requires.leads) c.in-Some.number c.in-Some.ensures.some in
    let x = there.0 in
    listed_then c.args.tree.now c.move_at.new.tree c.set_hidden.new.self c.move_at.ensures.listed
    (listed_written c.move_at.new.tree c.set_hidden.new.self c.in-Some.number x (record x { hidden = true }) there.1 refl (c.set_hidden.ensures.writes x there.1))
