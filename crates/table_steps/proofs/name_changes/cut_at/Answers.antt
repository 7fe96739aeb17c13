use Rattle.tree.specs.Places.{at_in}
use Rattle.table_steps.proofs.Placing.{cut_children, cuts_free, cuts_named}
use Rattle.table_steps.proofs.NewlyCut.{listed_by, listed_same}
use Rattle.table_steps.proofs.name_changes.cut_at.Goals as goal

pub returns-in_default-clause-cuts : goal.returns-in_default-clause-cuts
returns-in_default-clause-cuts c = cuts_free (at_in c.args.tree.now) c.find_guessed.ensures.tree c.args.key.now c.requires c.in_default.ensures.none

pub returns-clause-cuts : goal.returns-clause-cuts
returns-clause-cuts c =
    cuts_named c.args.tree.now c.cut.new.self c.find_guessed.ensures.tree c.args.key.now c.requires c.in-Some.number c.in-Some.ensures.some c.in-Ok.ensures.ok

pub returns-clause-children : goal.returns-clause-children
returns-clause-children c =
    cut_children (at_in c.args.tree.now) (at_in c.cut.new.self) c.find_guessed.ensures.tree c.in-Some.number c.args.key.now.parent c.args.key.now.name c.in-Some.ensures.some c.in-Ok.ensures.ok.below

pub returns-in_default-clause-listed : goal.returns-in_default-clause-listed
returns-in_default-clause-listed c = listed_same c.args.tree.now

pub returns-clause-listed : goal.returns-clause-listed
returns-clause-listed c = listed_by c.args.tree.now c.cut.new.self c.in-Ok.ensures.ok.lists
