use Rattle.std.proofs.Common.{◌≡◌, ◌∙◌, ◌++◌, ◌∷◌, [], sym, subst}
use Rattle.std.specs.Cmp.Lexicographic.{bytes_decides, pointwise_decides}
use Rattle.paths.specs.Prefixes.{Names}
use Rattle.disk_folder.proofs.WayLemmas.{same_above}
use Rattle.disk_folder.proofs.beside.name_beside.Goals as goal

pub returns-then-eq : goal.returns-then-eq
returns-then-eq c = λ up last whole.
    let here = same_above _ up _ last (sym (sym c.names.ensures ∙ c.in-Some.ensures.cases.0) ∙ whole) in
    let same = (pointwise_decides bytes_decides _ _).0 (sym c.eq.ensures ∙ c.if-eq.true) in
    let there = sym c.names-in-Some.ensures ∙ c.in-Some-split_last.ensures.cases.0 in
    subst (λ (q : Names). c.args.other.now ≡ q ++ c.in-Some-split_last.name.now ∷ []) (sym same ∙ here) there
