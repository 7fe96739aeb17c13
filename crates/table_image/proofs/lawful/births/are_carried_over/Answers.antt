use Rattle.std.proofs.Common.{arith}
use Rattle.table_image.proofs.lawful.births.are_carried_over.Goals as goal

pub overflow_add-result : goal.overflow_add-result
overflow_add-result c = record { fits = omega (arith, c.carried_in_all.ensures.few, c.from.ensures, c.from-2.ensures) }
