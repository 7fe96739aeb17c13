use Rattle.table_requests.proofs.CountedHolds.{holders_none}
use Rattle.table_requests.proofs.held_paths.nothing_held.Goals as goal

pub returns : goal.returns
returns c = holders_none c.new.result c.new.ensures.none c.new.ensures.law
