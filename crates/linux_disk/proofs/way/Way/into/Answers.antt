use Rattle.std.proofs.Common.{ℕ, List, ◌++◌, codes, refl, ap, ◌∙◌}
use Rattle.linux_disk.proofs.WayLemmas.{way_on}
use Rattle.linux_disk.proofs.way.Way.into.Goals as goal

pub invariant_of-result : goal.invariant_of-result
invariant_of-result c =
    way_on _ _ _ _ c.in_ok-text.ensures.leads c.requires
    (c.if-push.ensures refl ∙ ap (λ (xs : List ℕ). xs ++ c.args.name.now) c.deref_mut.ensures.value)
    (c.if-push-2.ensures refl ∙ ap (λ (xs : List ℕ). xs ++ codes "/") c.deref_mut-then-push.ensures.value)
