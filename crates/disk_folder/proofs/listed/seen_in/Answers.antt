use Rattle.std.proofs.Common.{◌≡◌, ◌∙◌, ◌++◌, ◌∷◌, [], IfSome, length, sym, subst}
use Rattle.paths.specs.Prefixes.{Names}
use Rattle.disk_folder.specs.Seen.{IsSeen}
use Rattle.disk_folder.proofs.WayLemmas.{parent_is}
use Rattle.disk_folder.proofs.listed.seen_in.Goals as goal

pub returns-then-is_prefix_of : goal.returns-then-is_prefix_of
returns-then-is_prefix_of c = λ at all.
    let up = c.args.listed.now.path in
    let path = c.args.path.now in
    let above = c.in-Some.above.now in
    let whole : path ≡ above ++ c.in-Some.name.now ∷ [] = sym c.names.ensures ∙ c.in-Some.ensures.cases.0 in
    let long : length above ≡ length up = c.if-above-len.true ∙ c.len.ensures in
    let path_is = parent_is up path above c.in-Some.name.now whole long (sym c.is_prefix_of.ensures ∙ c.if-is_prefix_of.true) in
    subst (λ (q : Names). IfSome c.seen_at.result (IsSeen at q)) path_is (c.seen_at.ensures at up all)
