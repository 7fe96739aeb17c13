use Rattle.std.proofs.Common.{rules}
use Rattle.std.proofs.lemmas.Result.{on_err_weaker, on_ok_weaker}
use Rattle.table_requests.proofs.CountedHolds.{holders_counted, holders_more, holders_noted, holders_same}
use Rattle.table_requests.proofs.held_paths.add_holder.Goals as goal

pub returns-in_default-clause-added : goal.returns-in_default-clause-added
returns-in_default-clause-added c fs fresh told = holders_more c.args.held.now fs c.args.flight.now fresh told c.in_default.field-0 c.in_default.field-1 c.in_default.is

pub returns-then-is_none-clause-added : goal.returns-then-is_none-clause-added
returns-then-is_none-clause-added c fs fresh told = holders_noted c.args.held.now fs c.args.flight.now fresh told c.in-Working.work c.in-Working.is (search rules)

pub returns-clause-added : goal.returns-clause-added
returns-clause-added c =
    on_ok_weaker c.add.result (λ adds fs fresh told. holders_counted c.args.held.now fs c.args.flight.now fresh told c.in-Working.work c.add.new.self c.in-Working.is c.add.ensures.law adds) c.add.ensures.adds

pub returns-clause-same : goal.returns-clause-same
returns-clause-same c = on_err_weaker c.add.result (λ same fs told. holders_same c.args.held.now c.add.new.self fs same c.add.ensures.law told) c.add.ensures.same
