use Rattle.std.proofs.Common.{◌≡◌, All, List, sym, ap, ◌∙◌, subst}
use Rattle.paths.specs.Prefixes.{Names}
use Rattle.table_requests.specs.declared.data.Stage as flight
use Rattle.table_image.proofs.Exported.{IsHeldBySome}
use Rattle.table.specs.Copies.{held_of, exclusive_in_all, sharers_in}
use Rattle.table.proofs.export.add_held.Goals as goal

pub add_paths-requires-clause-held : goal.add_paths-requires-clause-held
add_paths-requires-clause-held c =
    let fs = c.args.flights.now.flights in
    let names : c.as_slice.result.now ≡ (held_of c.args.stage.now).shared = c.as_slice.ensures ∙ ap (λ (s : flight.Stage). (held_of s).shared) (sym c.in-Working.is) in
    subst (λ (ps : List Names). All (IsHeldBySome (sharers_in fs) (exclusive_in_all fs)) ps) (sym names) c.requires.shared

pub add_paths-requires-in-Working-clause-held : goal.add_paths-requires-in-Working-clause-held
add_paths-requires-in-Working-clause-held c =
    let fs = c.args.flights.now.flights in
    let names : c.as_slice-in-Working.result.now ≡ (held_of c.args.stage.now).exclusive = c.as_slice-in-Working.ensures ∙ ap (λ (s : flight.Stage). (held_of s).exclusive) (sym c.in-Working.is) in
    subst (λ (ps : List Names). All (IsHeldBySome (sharers_in fs) (exclusive_in_all fs)) ps) (sym names) c.requires.exclusive
