use Rattle.std.proofs.Common.{◌↔◌, ◌∙◌, IsTrue, List, subst}
use Rattle.std.specs.List.{AllPass}
use Rattle.std.specs.List.Sorted.{IsStrictlySortedBy}
use Rattle.std.proofs.lemmas.List.Sorted.{IsPermutation-refl}
use Rattle.backing.specs.declared.call.Child.{Child}
use Rattle.handles.specs.Names.{is_lawful, by_name}
use Rattle.handles.proofs.Sorting.{lawless_name, lawful_once, ordered}
use Rattle.handles.proofs.names.in_order.Goals as goal

pub returns-then-not-all_lawful : goal.returns-then-not-all_lawful
returns-then-not-all_lawful c =
    let tells : IsTrue c.all_lawful.result ↔ AllPass (λ (child : Child). is_lawful child.name) c.args.children = subst (λ (cs : List Child). IsTrue c.all_lawful.result ↔ AllPass (λ (child : Child). is_lawful child.name) cs) (c.deref.ensures.value ∙ c.into_vec-names.ensures) c.all_lawful.ensures in
    lawless_name c.args.children c.all_lawful.result tells c.if-not-all_lawful.true

pub returns-then-not-are_rising : goal.returns-then-not-are_rising
returns-then-not-are_rising c =
    let tells : IsTrue c.are_rising-2.result ↔ IsStrictlySortedBy by_name c.sort.new.children.items = subst (λ (cs : List Child). IsTrue c.are_rising-2.result ↔ IsStrictlySortedBy by_name cs) c.deref-3.ensures.value c.are_rising-2.ensures in
    lawful_once c.into_vec-names.result.items c.sort.new.children.items c.args.children c.are_rising-2.result c.into_vec-names.ensures c.sort.ensures.moved c.sort.ensures.sorted tells c.if-not-are_rising.true

pub returns-then-are_rising : goal.returns-then-are_rising
returns-then-are_rising c =
    let names = c.into_vec-names.result.items in
    let lawful : AllPass (λ (child : Child). is_lawful child.name) names = subst (λ (cs : List Child). AllPass (λ (child : Child). is_lawful child.name) cs) c.deref.ensures.value (c.all_lawful.ensures.0 c.if-not-all_lawful.false) in
    let rising : IsStrictlySortedBy by_name names = subst (λ (cs : List Child). IsStrictlySortedBy by_name cs) c.deref-2.ensures.value (c.are_rising.ensures.0 c.if-are_rising.true) in
    ordered names names c.args.children c.into_vec-names.ensures lawful (IsPermutation-refl names) rising

pub returns : goal.returns
returns c =
    let lawful : AllPass (λ (child : Child). is_lawful child.name) c.into_vec-names.result.items = subst (λ (cs : List Child). AllPass (λ (child : Child). is_lawful child.name) cs) c.deref.ensures.value (c.all_lawful.ensures.0 c.if-not-all_lawful.false) in
    let rising : IsStrictlySortedBy by_name c.sort.new.children.items = subst (λ (cs : List Child). IsStrictlySortedBy by_name cs) c.deref-3.ensures.value (c.are_rising-2.ensures.0 c.if-not-are_rising.false) in
    ordered c.into_vec-names.result.items c.sort.new.children.items c.args.children c.into_vec-names.ensures lawful c.sort.ensures.moved rising
