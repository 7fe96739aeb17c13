use Rattle.std.proofs.Common.{List, Option, sym, ap, subst}
use Rattle.table_requests.specs.declared.data.Given.{Given}
use Rattle.table_footprints.specs.Footprints.{page_keys}
use Rattle.table_steps.specs.declared.acts.EnteredNames.{EnteredNames}
use Rattle.table_steps.specs.Answers.{Answer}
use Rattle.table_steps.specs.Ending.{GivesAll, is_page, keys_in}
use Rattle.table_steps.specs.Kept.{flight_of, world_of}
use Rattle.table_steps.specs.Steps.{none_found, one_found}
use Rattle.table_steps.proofs.Filling.{none_given}
use Rattle.table_steps.proofs.state.State.give_entry.Goals as goal

pub returns-in-Page-clause-gives : goal.returns-in-Page-clause-gives
returns-in-Page-clause-gives c f here =
    let w = world_of c.args.self.now in
    let may = c.requires.may in
    let keys = page_keys c.in-Page.page.folder c.in-Page.page.names in
    let given = c.give_none-in-Page.result.given in
    subst (λ (e : EnteredNames). GivesAll w c.args.id (flight_of f) (keys_in e) (one_found (is_page e) (keys_in e)) given w) (sym c.in-Page.is)
    (subst (λ (gs : List (Option Given)). GivesAll w c.args.id (flight_of f) keys (none_found keys) gs w) (sym (ap (λ (a : Answer). a.given) c.give_none-in-Page.ensures))
    (none_given c.args.self.now c.args.id may.flight may.here may.answered f here keys))
