use Rattle.std.proofs.Common.{rules}
use Rattle.std.proofs.lemmas.List.Sorted.{ranks_by, answers_always}
use Rattle.std.specs.Ordering.{is_lt}
use Rattle.std.specs.Cmp.Lexicographic.{nat_list_cmp_total}
use Rattle.backing.specs.declared.call.Child.{Child}
use Rattle.handles.specs.Names.{by_name}
use Rattle.handles.proofs.names.sort.Goals as goal

pub returns-clause-sorted : goal.returns-clause-sorted
returns-clause-sorted c =
    c.sort_unstable_by.ensures.sorted (λ a b. is_lt (by_name a b)) (ranks_by nat_list_cmp_total (λ (child : Child). child.name)) (answers_always _ _ _ (λ f a r g k. search rules))
