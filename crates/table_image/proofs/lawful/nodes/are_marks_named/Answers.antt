use Rattle.std.proofs.Common.{rules, ◌↔◌, IsTrue, All}
use Rattle.table_image.specs.Parts.{IsMarkNamed}
use Rattle.table_image.proofs.Listed.{each_led, each_listed}
use Rattle.table_image.proofs.lawful.nodes.are_marks_named.Goals as goal

pub returns : goal.returns
returns c =
    let xs = c.args.nodes.now in
    let each : IsTrue c.all.result ↔ All IsMarkNamed xs = search rules in
    (λ yes. each_led IsMarkNamed xs (each.0 yes), λ law. each.1 (each_listed IsMarkNamed xs c.requires (λ x h. law x.number x h)))
