use Rattle.std.proofs.Common.{◌+◌, ◌<◌, ◌↔◌, IsTrue, All, List, length, drop, rules, arith, subst}
use Rattle.table_image.specs.declared.data.Hold.{Hold}
use Rattle.table_image.specs.Parts.{HaveOtherPaths}
use Rattle.table_image.proofs.Pairs.{slice_from, pairs_below-more, pairs_after}
use Rattle.table_image.proofs.lawful.held.have_own_paths.Goals as goal

pub returns-then-not-has_own_path : goal.returns-then-not-has_own_path
returns-then-not-has_own_path c =
    let hs = c.args.holds.now in
    let h = c.index-holds-i.result in
    let within : c.loop-i.i < length hs = omega arith in
    let test : IsTrue c.has_own_path.result ↔ All (HaveOtherPaths h) (drop (c.loop-i.i + 1) hs) =
    subst (λ (qs : List Hold). IsTrue c.has_own_path.result ↔ All (HaveOtherPaths h) qs) (slice_from hs (c.loop-i.i + 1)) c.has_own_path.ensures in (
      λ yes. absurd (search rules),
      λ apart.
          let yes : IsTrue c.has_own_path.result = test.1 (pairs_after HaveOtherPaths hs c.loop-i.i h within c.index-holds-i.is apart) in
          absurd (search rules),
    )

pub loop-i-preserved : goal.loop-i-preserved
loop-i-preserved c =
    let hs = c.args.holds.now in
    let h = c.index-holds-i.result in
    let within : c.loop-i.i < length hs = omega arith in
    let test : IsTrue c.has_own_path.result ↔ All (HaveOtherPaths h) (drop (c.loop-i.i + 1) hs) =
    subst (λ (qs : List Hold). IsTrue c.has_own_path.result ↔ All (HaveOtherPaths h) qs) (slice_from hs (c.loop-i.i + 1)) c.has_own_path.ensures in
    pairs_below-more HaveOtherPaths hs c.loop-i.i h within c.index-holds-i.is (test.0 (search rules)) c.loop-i.invariant
