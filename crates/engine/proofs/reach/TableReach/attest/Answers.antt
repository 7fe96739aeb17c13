use Rattle.std.proofs.Common.{refl}
use Rattle.table_steps.specs.Kept.{world_of}
use Rattle.table.proofs.Gaining.{gains_totals}
use Rattle.engine.proofs.reach.TableReach.attest.Goals as goal

pub returns : goal.returns
returns g c share = gains_totals (world_of c.args.self.now) (world_of c.args.self.now) share c.attest.ensures refl
