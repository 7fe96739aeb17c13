use Rattle.std.proofs.Common.{rules, []}
use Rattle.std.proofs.lemmas.List.Sorted.{answers_always}
use Rattle.std.specs.Ordering.{is_lt}
use Rattle.handles.specs.Listings.{folder_at}
use Rattle.handles.specs.Names.{by_name}
use Rattle.handles.proofs.Orders.{rising_decides}
use Rattle.handles.proofs.names.are_rising.Goals as goal

pub returns : goal.returns
returns c =
    rising_decides c.args.children.now (folder_at []) c.is_sorted_by.result (c.is_sorted_by.ensures.cases (λ a b. is_lt (by_name a b)) (answers_always _ _ _ (λ f a r g k. search rules)))
