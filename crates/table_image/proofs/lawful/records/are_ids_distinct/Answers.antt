use Rattle.std.proofs.Common.{◌+◌, ◌<◌, ◌↔◌, IsTrue, All, List, length, drop, rules, arith, subst}
use Rattle.table_image.specs.declared.data.Record.{Record}
use Rattle.table_image.specs.Parts.{HaveOtherIds}
use Rattle.table_image.proofs.Pairs.{slice_from, pairs_below-more, pairs_after}
use Rattle.table_image.proofs.lawful.records.are_ids_distinct.Goals as goal

pub returns-then-not-has_own_id : goal.returns-then-not-has_own_id
returns-then-not-has_own_id c =
    let rs = c.args.records.now in
    let r = c.index-records-i.result in
    let within : c.loop-i.i < length rs = omega arith in
    let test : IsTrue c.has_own_id.result ↔ All (HaveOtherIds r) (drop (c.loop-i.i + 1) rs) =
    subst (λ (qs : List Record). IsTrue c.has_own_id.result ↔ All (HaveOtherIds r) qs) (slice_from rs (c.loop-i.i + 1)) c.has_own_id.ensures in (
      λ yes. absurd (search rules),
      λ apart.
          let yes : IsTrue c.has_own_id.result = test.1 (pairs_after HaveOtherIds rs c.loop-i.i r within c.index-records-i.is apart) in
          absurd (search rules),
    )

pub loop-i-preserved : goal.loop-i-preserved
loop-i-preserved c =
    let rs = c.args.records.now in
    let r = c.index-records-i.result in
    let within : c.loop-i.i < length rs = omega arith in
    let test : IsTrue c.has_own_id.result ↔ All (HaveOtherIds r) (drop (c.loop-i.i + 1) rs) =
    subst (λ (qs : List Record). IsTrue c.has_own_id.result ↔ All (HaveOtherIds r) qs) (slice_from rs (c.loop-i.i + 1)) c.has_own_id.ensures in
    pairs_below-more HaveOtherIds rs c.loop-i.i r within c.index-records-i.is (test.0 (search rules)) c.loop-i.invariant
