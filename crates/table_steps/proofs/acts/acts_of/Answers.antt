use Rattle.std.proofs.Common.{◌==◌, None, length, refl, sym, ap, ◌∙◌}
use Rattle.table_requests.specs.declared.data.Want.{Want}
use Rattle.table_footprints.specs.Footprints.{page_keys, footprint_of}
use Rattle.table_steps.specs.Steps.{opened_alone, opened_with}
use Rattle.table_steps.proofs.Rooted.{none_alone}
use Rattle.table_steps.proofs.acts.acts_of.Goals as goal

-- a page opens no file
pub returns-in-Page-clause-exclusive : goal.returns-in-Page-clause-exclusive
returns-in-Page-clause-exclusive c =
    sym (ap (λ (w : Want). opened_alone (footprint_of w c.args.case)) c.in-Page.is ∙ none_alone (length (page_keys c.in-Page.folder c.in-Page.names) == 0) None refl)

pub returns-in-Page-clause-entered : goal.returns-in-Page-clause-entered
returns-in-Page-clause-entered c =
    sym (ap (λ (w : Want). opened_with (footprint_of w c.args.case)) c.in-Page.is ∙ none_alone (length (page_keys c.in-Page.folder c.in-Page.names) == 0) None refl)
