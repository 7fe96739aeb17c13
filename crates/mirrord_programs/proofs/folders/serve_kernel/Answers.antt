use Rattle.mirrord_programs.proofs.Ends.{one_alone, many_alone}
use Rattle.mirrord_programs.proofs.folders.serve_kernel.Goals as goal

pub returns-then-single : goal.returns-then-single
returns-then-single g c = one_alone _ _ _ c.if-single.true c.serve_device.ensures

pub returns-else-single : goal.returns-else-single
returns-else-single g c = many_alone _ _ _ c.if-single.false c.serve_device_by.ensures
