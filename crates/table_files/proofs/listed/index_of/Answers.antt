use Rattle.std.proofs.Common.{◌∙◌, ap, arith}
use Rattle.std.proofs.lemmas.List.{get_or_default}
use Rattle.table_files.specs.declared.listed.OpenEntry.{OpenEntry}
use Rattle.table_files.proofs.Listing.{not_there}
use Rattle.table_files.proofs.listed.index_of.Goals as goal
use Rattle.table_files.proofs.listed.index_of.Goals.{else-i-files-via-then-i-files+else-files-i, else-i-files-via-else-i-files}

pub returns-else-i-files-clause-none : goal.returns-else-i-files-clause-none
returns-else-i-files-clause-none c =
    let p = c.place_for-i.ensures in
    elim c.else-i-files.branch [
      | else-i-files-via-then-i-files+else-files-i w ↦ not_there c.args.files.now c.place_for-i.result c.args.handle c.requires p.below p.above (λ within d e. w.if-files-i.false (ap (λ (f : OpenEntry). f.handle) (get_or_default c.args.files.now c.place_for-i.result _ d within) ∙ e))
      | else-i-files-via-else-i-files w ↦ not_there c.args.files.now c.place_for-i.result c.args.handle c.requires p.below p.above (λ within d e. absurd (omega (arith, within, w.if-i-files.false)))
    ]
