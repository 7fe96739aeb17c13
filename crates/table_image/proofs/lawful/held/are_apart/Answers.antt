use Rattle.std.proofs.Common.{◌+◌, ◌<◌, ◌↔◌, IsTrue, All, List, length, drop, rules, arith, subst}
use Rattle.table_image.specs.declared.data.Record.{Record}
use Rattle.table_image.specs.ImageLaw.{AreClear}
use Rattle.table_image.proofs.Pairs.{slice_from, pairs_below-more, pairs_after}
use Rattle.table_image.proofs.lawful.held.are_apart.Goals as goal

pub returns-then-not-is_clear : goal.returns-then-not-is_clear
returns-then-not-is_clear c =
    let rs = c.args.records.now in
    let r = c.index-records-i.result in
    let within : c.loop-i.i < length rs = omega arith in
    let test : IsTrue c.is_clear.result ↔ All (AreClear r) (drop (c.loop-i.i + 1) rs) =
    subst (λ (qs : List Record). IsTrue c.is_clear.result ↔ All (AreClear r) qs) (slice_from rs (c.loop-i.i + 1)) c.is_clear.ensures in (
      λ yes. absurd (search rules),
      λ apart.
          let yes : IsTrue c.is_clear.result = test.1 (pairs_after AreClear rs c.loop-i.i r within c.index-records-i.is apart) in
          absurd (search rules),
    )

pub loop-i-preserved : goal.loop-i-preserved
loop-i-preserved c =
    let rs = c.args.records.now in
    let r = c.index-records-i.result in
    let within : c.loop-i.i < length rs = omega arith in
    let test : IsTrue c.is_clear.result ↔ All (AreClear r) (drop (c.loop-i.i + 1) rs) =
    subst (λ (qs : List Record). IsTrue c.is_clear.result ↔ All (AreClear r) qs) (slice_from rs (c.loop-i.i + 1)) c.is_clear.ensures in
    pairs_below-more AreClear rs c.loop-i.i r within c.index-records-i.is (test.0 (search rules)) c.loop-i.invariant
