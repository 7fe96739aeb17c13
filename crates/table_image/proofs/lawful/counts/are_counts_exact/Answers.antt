use Rattle.std.proofs.Common.{ℕ, ◌+◌, ◌≡◌, ◌↔◌, IsTrue, All, List, rules, subst}
use Rattle.ledger.specs.Periods.{Periods}
use Rattle.tree.specs.declared.nodes.Node.{Node}
use Rattle.tree.specs.Listed.{node_at, IsDistinct}
use Rattle.ledger.specs.Sums.{entries_of, given_back_of}
use Rattle.tree.proofs.LookupLemmas.{node_at_number}
use Rattle.table_image.specs.Parts.{AreCountsExact, IsCountExact, after_closed}
use Rattle.table_image.proofs.Listed.{each_led, each_listed}
use Rattle.table_image.proofs.lawful.counts.are_counts_exact.Goals as goal

-- the same in the terms of the law
count_of_led : (ps : Periods) (xs : List Node) → All (IsCountExact ps) xs → AreCountsExact (node_at xs) ps
unfolding IsCountExact
count_of_led ps xs each = record {
  counts = λ n x h.
      let P : ℕ → Type 0 = λ m. x.count + given_back_of m x.generation ps ≡ entries_of m x.generation ps in
      subst P (node_at_number xs n x h) (each_led (IsCountExact ps) xs each n x h);
}

count_of_listed : (ps : Periods) (xs : List Node) → IsDistinct xs → AreCountsExact (node_at xs) ps → All (IsCountExact ps) xs
unfolding IsCountExact
count_of_listed ps xs distinct law = each_listed (IsCountExact ps) xs distinct (λ x h. law.counts x.number x h)

pub returns : goal.returns
returns c =
    let xs = c.args.nodes.now in
    let ps = after_closed c.args.kept.now c.args.postings.now in
    let each : IsTrue c.all.result ↔ All (IsCountExact ps) xs = search rules in
    (λ yes. count_of_led ps xs (each.0 yes), λ law. each.1 (count_of_listed ps xs c.requires.distinct law))
