use Rattle.ops.proofs.Bits.{is_other_set}
use Rattle.ops.proofs.intents.sets_details.Goals as goal

pub returns : goal.returns
returns c = is_other_set c.args.valid c.ranges.valid.fits
