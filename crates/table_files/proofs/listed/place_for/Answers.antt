use Rattle.std.proofs.Common.{of_calls, nat_lt, rules, arith}
use Rattle.std.proofs.lemmas.Bool.{ltb-false, ltb-true}
use Rattle.std.proofs.lemmas.Fn.{always_returns_same}
use Rattle.table_files.proofs.Listing.{parted}
use Rattle.table_files.proofs.listed.place_for.Goals as goal

pub returns-clause-below : goal.returns-clause-below
returns-clause-below c k d less =
    let point = c.partition_point.ensures.partitioned (λ f. nat_lt f.handle c.args.handle) (always_returns_same _ _ _ (λ a r f h. search (rules, of_calls))) (parted c.args.files.now c.args.handle c.requires) in
    ltb-true _ c.args.handle (point.0 k d (omega arith) less)

pub returns-clause-above : goal.returns-clause-above
returns-clause-above c k d from within =
    let point = c.partition_point.ensures.partitioned (λ f. nat_lt f.handle c.args.handle) (always_returns_same _ _ _ (λ a r f h. search (rules, of_calls))) (parted c.args.files.now c.args.handle c.requires) in
    ltb-false _ c.args.handle (point.1 k d from within)
