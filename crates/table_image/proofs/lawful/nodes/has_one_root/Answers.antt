use Rattle.std.proofs.Common.{rules, ◌↔◌, IsTrue, All, sym, ◌∙◌}
use Rattle.tree.proofs.LookupLemmas.{node_at_number}
use Rattle.table_image.specs.Parts.{IsRootAlone}
use Rattle.table_image.proofs.Listed.{each_led, each_listed}
use Rattle.table_image.proofs.lawful.nodes.has_one_root.Goals as goal

pub returns : goal.returns
returns c =
    let xs = c.args.nodes.now in
    let each : IsTrue c.all.result ↔ All IsRootAlone xs = search rules in
    (λ yes. record { only = λ n x h root. sym (node_at_number xs n x h) ∙ each_led IsRootAlone xs (each.0 yes) n x h root }, λ law. each.1 (each_listed IsRootAlone xs c.requires (λ x h. law.only x.number x h)))
