use Rattle.std.proofs.Common.{ℕ, ◌↔◌, IsTrue, All, rules, ap, sym, ◌∙◌}
use Rattle.ledger.specs.Sums.{births_of}
use Rattle.tree.proofs.LookupLemmas.{node_at_number}
use Rattle.table_image.specs.Parts.{BearsLastBirth, after_closed}
use Rattle.table_image.proofs.Listed.{each_led, each_listed}
use Rattle.table_image.proofs.lawful.counts.bear_last_births.Goals as goal

pub returns : goal.returns
returns c =
    let xs = c.args.nodes.now in
    let ps = after_closed c.args.kept.now c.args.postings.now in
    let each : IsTrue c.all.result ↔ All (BearsLastBirth ps) xs = search rules in (
      λ yes. record {
        generations = λ n x h other.
            let number = node_at_number xs n x h in
            (each_led (BearsLastBirth ps) xs (each.0 yes) n x h).generation (λ one. other (sym number ∙ one)) ∙ ap (λ (m : ℕ). births_of m ps) number;
      },
      λ law. each.1 (each_listed (BearsLastBirth ps) xs c.requires.distinct (λ x h. record { generation = law.generations x.number x h })),
    )
