use Rattle.handles.proofs.Counting.{begins}
use Rattle.handles.proofs.counts.Counts.new.Goals as goal

pub of_words-requires : goal.of_words-requires
of_words-requires c = begins c.args.limits
