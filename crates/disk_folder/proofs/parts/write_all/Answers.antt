use Rattle.std.proofs.Common.{arith}
use Rattle.disk_folder.proofs.PartLemmas.{wrote_more, wrote_still}
use Rattle.disk_folder.proofs.parts.write_all.Goals as goal

pub returns-in-Ok-eq0-clause-stay : goal.returns-in-Ok-eq0-clause-stay
returns-in-Ok-eq0-clause-stay g c = λ p before stands file.
    let stay = c.loop-count.invariant.stay p before stands file in
    let part = c.in-Ok-eq0.ensures.ok p (stay c.args.file.now p stands) in
    λ handle q h. part.stay handle q (stay handle q h)

pub returns-in-Ok-eq0-clause-err : goal.returns-in-Ok-eq0-clause-err
returns-in-Ok-eq0-clause-err g c = (
  tt,
  λ p before stands file.
      let part = c.in-Ok-eq0.ensures.ok p (c.loop-count.invariant.stay p before stands file c.args.file.now p stands) in
      let some = part.some in
      let none = c.in-Ok-eq0.field-0-test in
      absurd (omega (arith, some, none)),
)

pub loop-count-preserved : goal.loop-count-preserved
loop-count-preserved g c = record {
  within = let fits = c.in-Ok.ensures.within in let before = c.loop-count.invariant.within in omega (arith, fits, before);
  stay = λ p before stands file.
      let stay = c.loop-count.invariant.stay p before stands file in
      let part = c.in-Ok.ensures.ok p (stay c.args.file.now p stands) in
      λ handle q h. part.stay handle q (stay handle q h);
  wrote = λ p before stands file.
      let stay = c.loop-count.invariant.stay p before stands file in
      let part = c.in-Ok.ensures.ok p (stay c.args.file.now p stands) in
      wrote_more (g.D.Disk.tree c.args.disk.now) (g.D.Disk.tree c.loop-count.disk) (g.D.Disk.tree c.write_part.new.disk) (g.D.Disk.stands c.loop-count.disk) (g.D.Disk.stands c.write_part.new.disk) p before c.args.offset c.loop-count.count c.in-Ok.more c.args.bytes.now file c.loop-count.invariant.within c.in-Ok.ensures.within (c.loop-count.invariant.wrote p before stands file) part;
}

pub returns-in-Err-clause-stay : goal.returns-in-Err-clause-stay
returns-in-Err-clause-stay g c = λ p before stands file.
    let stay = c.loop-count.invariant.stay p before stands file in
    let part = c.in-Err.ensures.err.1 p (stay c.args.file.now p stands) in
    λ handle q h. part.stay handle q (stay handle q h)

pub returns-in-Err-clause-err : goal.returns-in-Err-clause-err
returns-in-Err-clause-err g c = (
  c.in-Err.ensures.err.0,
  λ p before stands file.
      let stay = c.loop-count.invariant.stay p before stands file in
      let part = c.in-Err.ensures.err.1 p (stay c.args.file.now p stands) in
      (c.loop-count.count, c.loop-count-test.true, wrote_still (g.D.Disk.tree c.args.disk.now) (g.D.Disk.tree c.loop-count.disk) (g.D.Disk.tree c.write_part.new.disk) p before c.args.offset c.loop-count.count c.args.bytes.now part.tree (c.loop-count.invariant.wrote p before stands file)),
)
