use Rattle.std.proofs.Common.{ap, sym, subst, ◌∙◌, List, ℕ}
use Rattle.std.specs.Option.{option_copied}
use Rattle.tree.specs.Places.{Nodes, at_in}
use Rattle.table_steps.specs.Sweeping.{HaveReasonsAside}
use Rattle.table_steps.specs.Keeping.{kept_by}
use Rattle.table_steps.proofs.Reasons.{aside_dropped, aside_needed, aside_none}
use Rattle.table_steps.proofs.sweep.drop_cut.Goals as goal

pub returns-in_default-clause-aside : goal.returns-in_default-clause-aside
returns-in_default-clause-aside c = aside_none (at_in c.args.tree.now) (kept_by c.args.flights.now c.args.files.now) c.args._but c.args.tree.now.newly_cut c.args.number c.requires.aside (sym c.at.ensures.found ∙ ap option_copied c.in_default.is)

pub returns-then-is_needed-clause-aside : goal.returns-then-is_needed-clause-aside
returns-then-is_needed-clause-aside c =
    aside_needed (at_in c.args.tree.now) (kept_by c.args.flights.now c.args.files.now) c.args._but c.args.tree.now.newly_cut c.args.number c.requires.aside c.in-Some.node.now (sym c.in-Some.ensures.found) (c.is_needed.ensures.yes c.if-is_needed.true)

pub returns-clause-aside : goal.returns-clause-aside
returns-clause-aside c =
    subst (λ (l : List ℕ). HaveReasonsAside (at_in c.drop_node.new.self) (kept_by c.args.flights.now c.args.files.now) c.args._but l) (sym (ap (λ (t : Nodes). t.newly_cut) c.drop_node.ensures.drops.rest))
    (aside_dropped (at_in c.args.tree.now) (kept_by c.args.flights.now c.args.files.now) c.args._but c.args.tree.now.newly_cut c.args.number c.requires.aside c.in-Some.node.now (sym c.in-Some.ensures.found) (at_in c.drop_node.new.self) c.in-Cut.is c.drop_node.ensures.drops.nodes)
