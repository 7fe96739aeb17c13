use Rattle.std.proofs.Common.{◌==◌, ◌↔◌, IsTrue, All, List, get_or, rules, subst, refl}
use Rattle.std.proofs.lemmas.Bool.{eqb-true, eq-eqb}
use Rattle.std.proofs.lemmas.List.Folds.{Any-from_list_any, list_any_at}
use Rattle.table_files.specs.declared.listed.OpenEntry.{OpenEntry}
use Rattle.table_files.specs.OpenEntry.{opened_in}
use Rattle.tree.specs.Places.{Lookup, IsAlive}
use Rattle.tree.specs.Listed.{node_at}
use Rattle.table_law.specs.Law.{AreAlive}
use Rattle.table_image.specs.Parts.{IsOfLiving}
use Rattle.table_image.proofs.lawful.opened.are_files_alive.Goals as goal

living : (at : Lookup) (files : List OpenEntry) → All (IsOfLiving at) files → AreAlive at (opened_in files)
unfolding IsOfLiving
living at files each n is =
    let some = Any-from_list_any (λ (f : OpenEntry). f.file.number == n) files is in
    let here : IsOfLiving at some.1 = subst (IsOfLiving at) some.3 (each some.0 some.1 some.2) in
    subst (λ m. IsAlive at m) (eqb-true some.1.file.number n some.4) here

named : (at : Lookup) (files : List OpenEntry) → AreAlive at (opened_in files) → All (IsOfLiving at) files
unfolding IsOfLiving
named at files alive k d within =
    let f : OpenEntry = get_or files k d in
    alive f.file.number (list_any_at (λ (g : OpenEntry). g.file.number == f.file.number) files k d within (eq-eqb f.file.number f.file.number refl))

pub returns : goal.returns
returns c =
    let at = node_at c.args.nodes.now in
    let each : IsTrue c.all.result ↔ All (IsOfLiving at) c.args.files.now = search rules in
    (λ yes. living at c.args.files.now (each.0 yes), λ law. each.1 (named at c.args.files.now law))
