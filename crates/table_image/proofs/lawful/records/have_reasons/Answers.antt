use Rattle.std.proofs.Common.{ℕ, ◌↔◌, IsTrue, All, rules, sym, ◌∙◌, subst}
use Rattle.tree.specs.Listed.{node_at}
use Rattle.tree.proofs.LookupLemmas.{node_at_number}
use Rattle.table_law.specs.Law.{HasReason}
use Rattle.table_image.specs.ImageLaw.{is_kept}
use Rattle.table_image.specs.Parts.{IsReasoned}
use Rattle.table_image.proofs.Listed.{each_led, each_listed}
use Rattle.table_image.proofs.lawful.records.have_reasons.Goals as goal

pub returns : goal.returns
returns c =
    let xs = c.args.nodes.now in
    let at = node_at xs in
    let kept = is_kept c.args.records.now c.args.files.now in
    let each : IsTrue c.all.result ↔ All (IsReasoned at kept) xs = search rules in (
      λ yes n x h other.
          let number = node_at_number xs n x h in
          let reason = (each_led (IsReasoned at kept) xs (each.0 yes) n x h).reason (λ one. other (sym number ∙ one)) in
          let P : ℕ → Type 0 = λ m. HasReason at kept m x in
          subst P number reason,
      λ law. each.1 (each_listed (IsReasoned at kept) xs c.requires (λ x h. record { reason = law x.number x h })),
    )
