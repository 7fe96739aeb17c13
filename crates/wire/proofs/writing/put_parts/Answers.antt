use Rattle.std.proofs.Common.{arith}
use Rattle.std.proofs.lemmas.List.Folds.{length-flat_map-take}
use Rattle.wire.specs.declared.writing.Part.TheVariants.{U32}
use Rattle.wire.specs.Rows.{part_bytes}
use Rattle.wire.proofs.writing.put_parts.Goals as goal

pub put_part-requires : goal.put_part-requires
put_part-requires c =
    omega (arith, c.loop-part.invariant.len, c.loop-part.invariant.capacity, c.requires, length-flat_map-take part_bytes c.args.parts.now c.loop-part.part-index (U32 0) c.loop-part-test.true)
