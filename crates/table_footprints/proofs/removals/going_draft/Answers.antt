use Rattle.std.proofs.Common.{◌∷◌, []}
use Rattle.std.proofs.lemmas.Result.{err_from_is_err_and}
use Rattle.tree.specs.Places.{at_in}
use Rattle.table_footprints.specs.declared.footprints.HoldMode.TheVariants.{Exclusive}
use Rattle.table_footprints.specs.Gatherings.{told}
use Rattle.table_footprints.specs.Footprints.{AtName}
use Rattle.table_footprints.proofs.Gathering.{draft_more}
use Rattle.table_footprints.proofs.Removing.{bad_more, rooted_less}
use Rattle.table_footprints.proofs.removals.going_draft.Goals as goal

pub gather-requires-clause-rooted : goal.gather-requires-clause-rooted
gather-requires-clause-rooted c =
    rooted_less (at_in c.args.tree.now) (told c.args.gone.now.firsts.now) (AtName c.args.gone.now.parent c.args.gone.now.name.now ∷ []) c.requires.rooted

pub returns-in_err-gather-clause-err : goal.returns-in_err-gather-clause-err
returns-in_err-gather-clause-err c =
    let p = err_from_is_err_and c.from_residual-in_err-gather.result c.from_residual-in_err-gather.ensures.1 in
    let gone = c.args.gone.now in
    rw (p.1, p.2) (bad_more (at_in c.args.tree.now) (told gone.firsts.now) (AtName gone.parent gone.name.now ∷ []) c.in_err-gather.field-0.0 c.in_err-gather.ensures.err)

pub returns-clause-ok : goal.returns-clause-ok
returns-clause-ok c =
    let gone = c.args.gone.now in
    draft_more (at_in c.args.tree.now) c.requires.tree (AtName gone.parent gone.name.now) c.args.found c.requires.found Exclusive (told gone.firsts.now) c.gather.new.gathering c.add.new.self c.in_ok-gather.ensures.ok c.in_ok-add.ensures
