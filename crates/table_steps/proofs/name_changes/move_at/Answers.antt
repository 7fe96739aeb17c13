use Rattle.std.proofs.Common.{◌≡◌, ◌⊎◌, inr}
use Rattle.tree.specs.Places.{at_in}
use Rattle.tree.proofs.Climbing.{path_of_lead}
use Rattle.table_steps.proofs.Placing.{children_more, may_relink, move_children, moves_free, moves_named, parent_leads}
use Rattle.table_steps.proofs.NewlyCut.{listed_by}
use Rattle.table_steps.proofs.name_changes.move_at.Goals as goal

pub relink-requires-clause-can : goal.relink-requires-clause-can
relink-requires-clause-can c =
    let old = at_in c.args.tree.now in
    let up = path_of_lead old c.args.key.now.parent (parent_leads old c.find_guessed.ensures.tree c.in-Some.number c.args.key.now.parent c.args.key.now.name c.in-Some.ensures.some) in
    let new_up = path_of_lead old c.args.target.key.parent c.requires.target_leads in
    may_relink old c.find_guessed.ensures.tree c.args.key.now c.args.target.key up.0 new_up.0 up.1 new_up.1 c.requires.may c.in-Some.number c.in-Some.ensures.some

pub returns-in-Some-clause-moves : goal.returns-in-Some-clause-moves
returns-in-Some-clause-moves c leads =
    moves_named (at_in c.args.tree.now) (at_in c.relink.new.self) c.find_guessed.ensures.tree c.args.key.now c.args.target.key leads c.requires.target_leads c.in-Some.number c.in-Some.ensures.some c.relink.ensures.relinks.moves

pub returns-in-Some-clause-exclusive : goal.returns-in-Some-clause-exclusive
returns-in-Some-clause-exclusive c none =
    absurd (none (parent_leads (at_in c.args.tree.now) c.find_guessed.ensures.tree c.in-Some.number c.args.key.now.parent c.args.key.now.name c.in-Some.ensures.some))

pub returns-in-Some-clause-children : goal.returns-in-Some-clause-children
returns-in-Some-clause-children c =
    let old = at_in c.args.tree.now in
    let up = path_of_lead old c.args.key.now.parent (parent_leads old c.find_guessed.ensures.tree c.in-Some.number c.args.key.now.parent c.args.key.now.name c.in-Some.ensures.some) in
    let new_up = path_of_lead old c.args.target.key.parent c.requires.target_leads in
    move_children old c.find_guessed.ensures.tree c.args.key.now c.args.target.key up.0 new_up.0 up.1 new_up.1 c.requires.may c.in-Some.number c.in-Some.ensures.some (at_in c.relink.new.self) c.relink.ensures.relinks.moves

pub returns-in-None-clause-moves : goal.returns-in-None-clause-moves
returns-in-None-clause-moves c leads =
    moves_free (at_in c.args.tree.now) (at_in c.cut_at.new.tree) c.find_guessed.ensures.tree c.args.key.now c.args.target.key leads c.in-None.ensures.none c.cut_at.ensures.cuts

pub returns-in-None-clause-children : goal.returns-in-None-clause-children
returns-in-None-clause-children c =
    children_more (at_in c.args.tree.now) (at_in c.cut_at.new.tree) (λ n. n ≡ c.args.target.key.parent) (λ n. (n ≡ c.args.key.now.parent) ⊎ (n ≡ c.args.target.key.parent)) (λ n e. inr e) c.cut_at.ensures.children

pub returns-in-Some-clause-listed : goal.returns-in-Some-clause-listed
returns-in-Some-clause-listed c = listed_by c.args.tree.now c.relink.new.self c.relink.ensures.relinks.lists
