use Rattle.std.proofs.Common.{◌≡◌, ◌≤◌, ◌*◌, sym, ◌∙◌, arith, rules}
use Rattle.indexmap.specs.IndexMap.{index_map_len}
use Rattle.collections.proofs.Sifting.{IsSiftedMap-skip, IsSiftedMap-swap, kept_live, compacted_same, compacted_none, compacted_live}
use Rattle.collections.proofs.steady_map.compact.Goals as goal
use Rattle.collections.proofs.steady_map.compact.Goals.{then-lives, else-lives}

pub loop-i-preserved : goal.loop-i-preserved
loop-i-preserved g c =
    let eq = g.K.PartialEq.eq in
    elim c.if-lives.branch [
      | then-lives w ↦
          let e = w.swap_indices.ensures in
          rw (w.map-is, w.kept-is) (IsSiftedMap-swap eq c.args.map.now c.loop-i.map w.swap_indices.new.self c.loop-i.i c.loop-i.kept (search rules) (λ d. sym (c.lives.ensures d) ∙ w.if-lives.true) e.entries e.reordered e.room c.loop-i.invariant)
      | else-lives w ↦
          rw (w.map-is, w.kept-is) (IsSiftedMap-skip eq c.args.map.now c.loop-i.map c.loop-i.i c.loop-i.kept (λ d h. let bad = sym (sym (c.lives.ensures d) ∙ w.if-lives.false) ∙ h in cc) c.loop-i.invariant)
    ]

pub returns-clause-same : goal.returns-clause-same
returns-clause-same g c =
    let all : c.loop-i.i ≡ index_map_len c.loop-i.map = omega (arith, c.loop-i.invariant.len) in
    compacted_same g.K.PartialEq.eq c.args.map.now c.loop-i.map c.truncate.new.self c.loop-i.i c.loop-i.kept all c.loop-i.invariant c.truncate.ensures.entries

pub returns-clause-none : goal.returns-clause-none
returns-clause-none g c =
    let all : c.loop-i.i ≡ index_map_len c.loop-i.map = omega (arith, c.loop-i.invariant.len) in
    compacted_none g.K.PartialEq.eq c.args.map.now c.loop-i.map c.truncate.new.self c.loop-i.i c.loop-i.kept all c.loop-i.invariant c.truncate.ensures.entries

pub returns-clause-live : goal.returns-clause-live
returns-clause-live g c =
    let all : c.loop-i.i ≡ index_map_len c.loop-i.map = omega (arith, c.loop-i.invariant.len) in
    compacted_live g.K.PartialEq.eq c.args.map.now c.loop-i.map c.truncate.new.self c.loop-i.i c.loop-i.kept all c.loop-i.invariant c.truncate.ensures.entries

pub returns-clause-len : goal.returns-clause-len
returns-clause-len g c =
    let all : c.loop-i.i ≡ index_map_len c.loop-i.map = omega (arith, c.loop-i.invariant.len) in
    let kept = kept_live g.K.PartialEq.eq c.args.map.now c.loop-i.map c.truncate.new.self c.loop-i.i c.loop-i.kept all c.loop-i.invariant c.truncate.ensures.entries in
    omega (arith, kept, all, c.truncate.ensures.len, c.loop-i.invariant.sifted.before)

pub returns-clause-places : goal.returns-clause-places
returns-clause-places g c =
    let all : c.loop-i.i ≡ index_map_len c.loop-i.map = omega (arith, c.loop-i.invariant.len) in
    let kept = kept_live g.K.PartialEq.eq c.args.map.now c.loop-i.map c.truncate.new.self c.loop-i.i c.loop-i.kept all c.loop-i.invariant c.truncate.ensures.entries in
    let half : 2 * c.loop-i.kept ≤ index_map_len c.loop-i.map = omega (arith, kept, c.requires, c.loop-i.invariant.len) in
    omega (arith, c.truncate.ensures.capacity half, c.loop-i.invariant.len, c.loop-i.invariant.room)
