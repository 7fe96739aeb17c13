use Rattle.std.proofs.Common.{ℕ, ◌≡◌, ◌==◌, true, Contains, List, [], Option, Bool, length, sym, ap, ◌∙◌, subst}
use Rattle.std.proofs.lemmas.Bool.{cond-false, ne_eqb}
use Rattle.std.proofs.lemmas.List.{length-map}
use Rattle.table_requests.specs.declared.data.Given.{Given}
use Rattle.holds.specs.declared.held.GivenPath.{GivenPath}
use Rattle.paths.specs.Prefixes.{Name, Names}
use Rattle.tree.specs.declared.nodes.Key.{Key}
use Rattle.tree.specs.Places.{Lookup, IsPathOf, at_in}
use Rattle.table_footprints.proofs.Members.{first_in}
use Rattle.table_footprints.specs.Footprints.{page_keys}
use Rattle.table_steps.specs.declared.acts.EnteredNames.{EnteredNames}
use Rattle.table_steps.specs.declared.acts.EnteredNames.TheVariants.{Page}
use Rattle.table_steps.specs.declared.keys.FolderKeys.{FolderKeys}
use Rattle.table_steps.specs.Answers.{Answer}
use Rattle.table_steps.specs.Ending.{GivesAll, LeadsTo, is_page, keys_in, folders_in}
use Rattle.table_steps.specs.Kept.{flight_of, world_of}
use Rattle.table_steps.specs.Steps.{none_found, page_found}
use Rattle.table_steps.proofs.Filling.{none_given}
use Rattle.table_steps.proofs.state.State.give_entries.Goals as goal

pub returns-then-found-as_slice-clause-gives : goal.returns-then-found-as_slice-clause-gives
returns-then-found-as_slice-clause-gives c f here =
    let w = world_of c.args.self.now in
    let may = c.requires.may in
    let names = c.in-Page.page.names in
    let keys = page_keys c.in-Page.page.folder names in
    let found = c.args.found.now in
    let given = c.give_none.result.given in
    let many : length keys ≡ length names = length-map names (λ (name : Name). let k : Key = record { parent = c.in-Page.page.folder; name = name } in k) in
    let other : length found ≡ length keys → ⊥ = λ e. c.if-found-as_slice.true (ap {B = ℕ} length c.as_slice-found.ensures ∙ (e ∙ (many ∙ sym (ap {B = ℕ} length c.as_slice.ensures)))) in
    let none : page_found true keys found ≡ none_found keys = cond-false (length found == length keys) found (none_found keys) (ne_eqb (length found) (length keys) other) in
    subst (λ (e : EnteredNames). GivesAll w c.args.id (flight_of f) (keys_in e) (page_found (is_page e) (keys_in e) found) given w) (sym c.in-Page.is)
    (subst (λ (bs : List Bool). GivesAll w c.args.id (flight_of f) keys bs given w) (sym none)
    (subst (λ (gs : List (Option Given)). GivesAll w c.args.id (flight_of f) keys (none_found keys) gs w) (sym (ap (λ (a : Answer). a.given) c.give_none.ensures))
    (none_given c.args.self.now c.args.id may.flight may.here may.answered f here keys)))

folder_lead : (at : Lookup) (given : List GivenPath) (entries : EnteredNames) (page : FolderKeys) → entries ≡ Page page → ((n : ℕ) → Contains (folders_in entries) n → LeadsTo at given n) → LeadsTo at given page.folder
folder_lead at given entries page is leads = leads page.folder (subst (λ (e : EnteredNames). Contains (folders_in e) page.folder) (sym is) (first_in page.folder []))

pub path_of-requires : goal.path_of-requires
path_of-requires c =
    let it = folder_lead (at_in c.args.self.now.tree) c.args.held.now.given c.args.entries c.in-Page.page c.in-Page.is c.requires.leads in
    ap {B = ℕ} length it.only

pub give_page-requires-clause-leads : goal.give_page-requires-clause-leads
give_page-requires-clause-leads c =
    let at = at_in c.args.self.now.tree in
    let it = folder_lead at c.args.held.now.given c.args.entries c.in-Page.page c.in-Page.is c.requires.leads in
    subst (λ (p : Names). IsPathOf at c.in-Page.page.folder p) (sym (c.path_of.ensures it.lead it.only)) it.leads
