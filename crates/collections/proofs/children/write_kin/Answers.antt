use Rattle.std.proofs.Common.{Some, Option, is_some, sym, ap, ◌∙◌}
use Rattle.std.specs.Prelude.{option_map}
use Rattle.slab.specs.Slab.{with_value}
use Rattle.slab.proofs.SlabLemmas.{Updates-with_value}
use Rattle.collections.specs.declared.children.Linked.{Linked}
use Rattle.collections.specs.Links.{value_of}
use Rattle.collections.proofs.Written.{linked_of, values_kept}
use Rattle.collections.proofs.children.write_kin.Goals as goal

pub returns-then-contains-clause-absent : goal.returns-then-contains-clause-absent
returns-then-contains-clause-absent g c none =
    let l = c.index_mut-linked.result.now in
    absurd (none (l.value, ap (λ (o : Option (Linked g.row.T.Denot)). option_map value_of o) (linked_of c.args.nodes.now c.args.number c.in-Some.key c.in-Some.ensures.some ∙ c.index_mut-linked.ensures.value)))

pub returns-then-contains-clause-values : goal.returns-then-contains-clause-values
returns-then-contains-clause-values g c =
    let s = c.args.nodes.now in
    let k = c.in-Some.key in
    let l = c.index_mut-linked.result.now in
    let new : Linked g.row.T.Denot = record { value = l.value; kin = c.args.kin } in
    let read = c.index_mut-linked.ensures.value in
    values_kept s (with_value s k new) k c.args.number (Some new) c.in-Some.ensures.some (Updates-with_value s k new (ap (λ (o : Option (Linked g.row.T.Denot)). is_some o) read)) (ap (λ (o : Option (Linked g.row.T.Denot)). option_map value_of o) (sym read))
