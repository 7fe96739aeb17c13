use Rattle.std.proofs.Common.{ℕ, ap, inl, inr, subst, sym, ◌∙◌}
use Rattle.tree.specs.Places.{at_in}
use Rattle.table_footprints.specs.Asked.{IsMisplaced}
use Rattle.table_footprints.specs.Footprints.{AtNode, Change, cuts}
use Rattle.table_steps.specs.Ending.{IsUnder, KeepsChildren, change_in}
use Rattle.table_steps.proofs.NewlyCut.{listed_same}
use Rattle.table_steps.proofs.name_changes.alter.Goals as goal

pub move_at-requires-clause-may : goal.move_at-requires-clause-may
move_at-requires-clause-may c e refused = c.requires.may e (subst (λ (change : Change). IsMisplaced (at_in c.args.tree.now) change e) (ap change_in (sym c.in-Moves.is)) refused)

pub returns-in-Cuts-clause-children : goal.returns-in-Cuts-clause-children
returns-in-Cuts-clause-children c = subst (λ (change : Change). KeepsChildren (at_in c.args.tree.now) (IsUnder (at_in c.args.tree.now) change) (at_in c.cut_at.new.tree)) (ap change_in (sym c.in-Cuts.is)) c.cut_at.ensures.children

pub cut_node-requires-clause-not_root : goal.cut_node-requires-clause-not_root
cut_node-requires-clause-not_root c e = c.requires.below (ap change_in c.in-CutsNode.is ∙ ap (λ (n : ℕ). cuts (AtNode n)) e)

pub returns-in-CutsNode-clause-children : goal.returns-in-CutsNode-clause-children
returns-in-CutsNode-clause-children c = subst (λ (change : Change). KeepsChildren (at_in c.args.tree.now) (IsUnder (at_in c.args.tree.now) change) (at_in c.cut_node.new.tree)) (ap change_in (sym c.in-CutsNode.is)) c.cut_node.ensures.children

pub returns-in-Moves-clause-children : goal.returns-in-Moves-clause-children
returns-in-Moves-clause-children c = subst (λ (change : Change). KeepsChildren (at_in c.args.tree.now) (IsUnder (at_in c.args.tree.now) change) (at_in c.move_at.new.tree)) (ap change_in (sym c.in-Moves.is)) c.move_at.ensures.children

pub hide_at-requires-clause-may : goal.hide_at-requires-clause-may
hide_at-requires-clause-may c e refused = c.requires.may e (subst (λ (change : Change). IsMisplaced (at_in c.args.tree.now) change e) (ap change_in (sym c.in-Hides.is)) refused)

pub returns-in-Hides-clause-children : goal.returns-in-Hides-clause-children
returns-in-Hides-clause-children c = subst (λ (change : Change). KeepsChildren (at_in c.args.tree.now) (IsUnder (at_in c.args.tree.now) change) (at_in c.hide_at.new.tree)) (ap change_in (sym c.in-Hides.is)) c.hide_at.ensures.children

pub replace_at-requires-clause-may : goal.replace_at-requires-clause-may
replace_at-requires-clause-may c e refused = c.requires.may e (subst (λ (change : Change). IsMisplaced (at_in c.args.tree.now) change e) (ap change_in (sym c.in-Replaces.is)) (inl refused))

pub replace_at-requires-clause-may_hide : goal.replace_at-requires-clause-may_hide
replace_at-requires-clause-may_hide c e refused = c.requires.may e (subst (λ (change : Change). IsMisplaced (at_in c.args.tree.now) change e) (ap change_in (sym c.in-Replaces.is)) (inr refused))

pub returns-in-Replaces-clause-children : goal.returns-in-Replaces-clause-children
returns-in-Replaces-clause-children c = subst (λ (change : Change). KeepsChildren (at_in c.args.tree.now) (IsUnder (at_in c.args.tree.now) change) (at_in c.replace_at.new.tree)) (ap change_in (sym c.in-Replaces.is)) c.replace_at.ensures.children

pub exchange_at-requires-clause-may : goal.exchange_at-requires-clause-may
exchange_at-requires-clause-may c e refused = c.requires.may e (subst (λ (change : Change). IsMisplaced (at_in c.args.tree.now) change e) (ap change_in (sym c.in-Exchanges.is)) refused)

pub returns-in-Exchanges-clause-children : goal.returns-in-Exchanges-clause-children
returns-in-Exchanges-clause-children c = subst (λ (change : Change). KeepsChildren (at_in c.args.tree.now) (IsUnder (at_in c.args.tree.now) change) (at_in c.exchange_at.new.tree)) (ap change_in (sym c.in-Exchanges.is)) c.exchange_at.ensures.children

pub returns-in-Stays-clause-listed : goal.returns-in-Stays-clause-listed
returns-in-Stays-clause-listed c = listed_same c.args.tree.now
