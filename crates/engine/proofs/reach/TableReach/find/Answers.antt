use Rattle.std.proofs.Common.{refl}
use Rattle.table_steps.specs.Kept.{world_of}
use Rattle.table.proofs.Gaining.{gains_totals}
use Rattle.engine.proofs.reach.TableReach.find.Goals as goal

pub returns-clause-gains : goal.returns-clause-gains
returns-clause-gains g c share = gains_totals (world_of c.args.self.now) (world_of c.args.self.now) share c.attest.ensures refl
