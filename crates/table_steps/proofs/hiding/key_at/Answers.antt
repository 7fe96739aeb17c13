use Rattle.std.proofs.Common.{◌≡◌, List, Some, length, option_map, refl, sym, ap, ◌∙◌, arith, subst}
use Rattle.std.specs.List.{slice_get}
use Rattle.std.proofs.lemmas.Option.{slice_get-map, slice_get_read}
use Rattle.paths.specs.Prefixes.{Name}
use Rattle.tree.specs.declared.nodes.Key.{Key}
use Rattle.table_footprints.specs.Footprints.{AtName, Location}
use Rattle.table_steps.specs.Ending.{name_at}
use Rattle.table_steps.proofs.hiding.key_at.Goals as goal

pub returns : goal.returns
returns c =
    let folder = c.args.keys.folder in
    let names = c.args.keys.names in
    let under : Name → Location = λ name. AtName folder name in
    let items = c.into_vec-names.result.items in
    let here : slice_get names c.args.index ≡ Some c.swap_remove-name.result =
    subst (λ (ns : List Name). slice_get ns c.args.index ≡ Some c.swap_remove-name.result) c.into_vec-names.ensures
    (slice_get_read items (length items) c.args.index c.swap_remove-name.result refl (omega (arith, c.if-i-len.false, c.len.ensures)) c.swap_remove-name.ensures.value) in
    ap (λ (key : Key). Some (name_at key)) c.new.ensures ∙ sym (slice_get-map under names c.args.index ∙ ap (λ o. option_map under o) here)
