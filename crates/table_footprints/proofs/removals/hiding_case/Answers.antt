use Rattle.std.proofs.Common.{refl, sym, ◌∙◌}
use Rattle.std.proofs.lemmas.Bool.{false≢true}
use Rattle.table_files.specs.OpenEntry.{files_of}
use Rattle.table_footprints.proofs.Removing.{plain_case}
use Rattle.table_footprints.proofs.removals.hiding_case.Goals as goal
use Rattle.table_footprints.proofs.removals.hiding_case.Goals.{else-may_hide-via-then-may_hide+else-is_open, else-may_hide-via-else-may_hide}

pub returns-in_default : goal.returns-in_default
returns-in_default c at parent name tree found may n named is_open = c.in_default.not-Some n ((found n).1 named)

pub returns-then-is_open : goal.returns-then-is_open
returns-then-is_open c at parent name tree found =
    (c.if-may_hide.true, refl, (found c.in-Some.number).0 c.in-Some.is, (c.is_open.ensures.law.opens c.in-Some.number).0 (sym c.is_open.ensures.opened ∙ c.if-is_open.true))

pub returns-else-may_hide : goal.returns-else-may_hide
returns-else-may_hide c at parent name tree found may n named is_open = elim c.else-may_hide.branch [
  | else-may_hide-via-then-may_hide+else-is_open w ↦
      plain_case at tree (files_of c.args.files.now) w.is_open.ensures.law c.args.counter parent name c.args.may_hide c.in-Some.number ((found c.in-Some.number).0 c.in-Some.is)
      (λ both. false≢true (sym w.if-is_open.false ∙ (w.is_open.ensures.opened ∙ both.1))) may n named is_open
  | else-may_hide-via-else-may_hide w ↦ absurd (false≢true (sym w.if-may_hide.false ∙ may))
]
