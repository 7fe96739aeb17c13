use Rattle.std.proofs.Common.{rules, ◌↔◌, IsTrue, All, subst}
use Rattle.tree.specs.Places.{Leads}
use Rattle.tree.specs.Listed.{node_at}
use Rattle.tree.proofs.LookupLemmas.{node_at_number}
use Rattle.table_image.specs.Parts.{IsReached}
use Rattle.table_image.proofs.Listed.{each_led, each_listed}
use Rattle.table_image.proofs.lawful.nodes.are_all_reached.Goals as goal

pub returns : goal.returns
returns c =
    let xs = c.args.nodes.now in
    let each : IsTrue c.all.result ↔ All (IsReached (node_at xs)) xs = search rules in (
      λ yes. record { reached = λ n p name h. subst (λ k. Leads (node_at xs) k) (node_at_number xs n h.0 h.1) ((each_led (IsReached (node_at xs)) xs (each.0 yes) n h.0 h.1).leads (record { parent = p; name = name }) h.2) },
      λ law. each.1 (each_listed (IsReached (node_at xs)) xs c.requires.distinct (λ x h. record { leads = λ key is. law.reached x.number key.parent key.name (x, h, is) })),
    )
