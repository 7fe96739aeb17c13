use Rattle.std.proofs.Common.{◌≡◌, ◌++◌, ◌∷◌, [], sym, ap, ◌∙◌}
use Rattle.std.proofs.lemmas.List.{same_from_push}
use Rattle.paths.specs.Prefixes.{Names}
use Rattle.backing.proofs.PathLemmas.{is_path-true, is_path-false}
use Rattle.backing.proofs.lookups.child_of.Goals as goal

pub returns-then-are_same-clause-some : goal.returns-then-are_same-clause-some
returns-then-are_same-clause-some c =
    let parent = c.in_ok-name.parent.now in
    let same : parent ≡ c.args.folder.now = is_path-true parent c.args.folder.now (sym c.are_same.ensures ∙ c.if-are_same.true) in
    sym c.names.ensures ∙ (c.in_ok-name.ensures.cases.0 ∙ ap (λ (p : Names). p ++ c.in_ok-name.name.now ∷ []) same)

pub returns-else-are_same-clause-none : goal.returns-else-are_same-clause-none
returns-else-are_same-clause-none c = λ name e.
    let parent = c.in_ok-name.parent.now in
    let whole = sym c.in_ok-name.ensures.cases.0 ∙ (c.names.ensures ∙ e) in
    is_path-false parent c.args.folder.now (sym c.are_same.ensures ∙ c.if-are_same.false) (same_from_push parent c.args.folder.now c.in_ok-name.name.now name whole).0
