use Rattle.std.proofs.Common.{sym, ap, ◌∙◌}
use Rattle.table_footprints.specs.Gatherings.{location_of}
use Rattle.table_footprints.specs.Footprints.{AtName, are_same}
use Rattle.table_footprints.proofs.FootprintLemmas.{name_same}
use Rattle.table_footprints.proofs.footprints.Location.is.Goals as goal

pub returns-then-parent-other_parent : goal.returns-then-parent-other_parent
returns-then-parent-other_parent c =
    let m = c.in-AtName-AtName in
    name_same m.parent m.other_parent m.name.now m.other_name.now c.is.result c.if-parent-other_parent.true c.is.ensures
    ∙ (ap (λ l. are_same (location_of l) (AtName m.other_parent m.other_name.now)) (sym m.is-0) ∙ ap (λ l. are_same (location_of c.args.self.now) (location_of l)) (sym m.is-1))
