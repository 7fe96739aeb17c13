use Rattle.std.proofs.Common.{ℕ, Option, subst, sym, ap, ◌∙◌}
use Rattle.std.proofs.lemmas.Bool.{true≢false}
use Rattle.tree.specs.Places.{at_in}
use Rattle.table_footprints.specs.Laws.{AreOwn}
use Rattle.table_footprints.specs.Footprints.{Change}
use Rattle.table_steps.specs.Sweeping.{HaveReasonsAside}
use Rattle.table_steps.specs.Keeping.{kept_by}
use Rattle.table_steps.specs.Ending.{ChangesNames, change_in}
use Rattle.table_steps.specs.Kept.{world_of}
use Rattle.table_steps.proofs.Changing.{change_kept, changes_names, mid_reasons}
use Rattle.table_steps.proofs.Ends.{nothing_changes}
use Rattle.table_steps.proofs.Rooted.{own_leads}
use Rattle.table_steps.proofs.Viewed.{are_kept}
use Rattle.table_steps.proofs.state.State.change.Goals as goal
use Rattle.table_steps.proofs.state.State.change.Goals.{in-Stays, in_default}

pub alter-requires-clause-leads : goal.alter-requires-clause-leads
alter-requires-clause-leads c = let may = c.requires.may in own_leads (at_in c.args.self.now.tree) may.footprint may.held may.grounded may.holds (change_in c.args.change) may.own

pub alter-requires-clause-below : goal.alter-requires-clause-below
alter-requires-clause-below c e = let may = c.requires.may in may.placed (subst (λ (change : Change). AreOwn may.footprint.exclusive change) e may.own)

pub sweep_change-requires-clause-aside : goal.sweep_change-requires-clause-aside
sweep_change-requires-clause-aside c =
    subst (λ (losing : Option ℕ). HaveReasonsAside (at_in c.alter.new.tree) (kept_by c.args.self.now.flights c.args.self.now.files) losing c.alter.new.tree.newly_cut) (sym c.losing-losing.ensures)
    (mid_reasons c.args.self.now c.requires.kept (change_in c.args.change) c.requires.may c.alter.new.tree c.alter.ensures.alters c.alter.ensures.children c.alter.ensures.listed c.alter.ensures.rest c.alter.ensures.tree)

pub returns-then-matches-clause-changes : goal.returns-then-matches-clause-changes
returns-then-matches-clause-changes c = elim c.match-matches.branch [
  | in-Stays w ↦
      let old = world_of c.args.self.now in
      subst (λ (change : Change). ChangesNames old change old) (ap change_in (sym w.in-Stays.is)) (nothing_changes old (kept_by c.args.self.now.flights c.args.self.now.files) (are_kept c.args.self.now.flights c.args.self.now.files c.requires.kept.flying c.requires.kept.filed) c.requires.kept.law.reasons)
  | in_default w ↦ absurd (true≢false (sym c.if-matches.true ∙ w.matches-is))
]

pub returns-clause-changes : goal.returns-clause-changes
returns-clause-changes c =
    changes_names c.args.self.now c.requires.kept (change_in c.args.change) c.requires.may c.alter.new.tree c.alter.ensures.alters c.alter.ensures.children c.alter.ensures.listed c.alter.ensures.rest c.alter.ensures.tree
    c.sweep_change.new.tree c.sweep_change.ensures.tree c.sweep_change.ensures.reasons c.sweep_change.ensures.swept c.sweep_change.ensures.rest

pub returns-clause-kept : goal.returns-clause-kept
returns-clause-kept c =
    change_kept c.args.self.now c.requires.kept (change_in c.args.change) c.requires.may c.alter.new.tree c.alter.ensures.alters c.alter.ensures.children c.alter.ensures.listed c.alter.ensures.rest c.alter.ensures.tree
    c.sweep_change.new.tree c.sweep_change.ensures.tree c.sweep_change.ensures.reasons c.sweep_change.ensures.swept c.sweep_change.ensures.rest
