use Rattle.std.proofs.Common.{◌≡◌, ◌<◌, ◌+◌, List, [], ◌∷◌, ◌++◌, append_assoc, arith, length, get_or, take, sym, ap, ◌∙◌}
use Rattle.std.proofs.lemmas.List.{take_more}
use Rattle.paths.specs.Prefixes.{Name, Names, prefixes}
use Rattle.paths.proofs.PrefixLemmas.{prefixes-push}
use Rattle.holds.proofs.prefixes.push_prefixes.Goals as goal

pub loop-i-preserved : goal.loop-i-preserved
loop-i-preserved c =
    let path : Names = c.args.path.now in
    let i = c.loop-i.i in
    let before : List Names = c.args.paths.now in
    let shorter : Names = take i path in
    let name : Name = get_or path i [] in
    let within : i < length path = omega (arith, c.loop-i-test.true) in
    let more : take (i + 1) path ≡ shorter ++ name ∷ [] = take_more path i [] within in
    let it : c.in_ok-prefix.field-0 ≡ shorter ++ name ∷ [] = c.in_ok-prefix.ensures ∙ more in
    let last : List Names = (shorter ++ name ∷ []) ∷ [] in
    let items : c.push.new.self ≡ c.loop-i.paths ++ last =
    c.in_ok-push.ensures ∙ ap (λ (p : Names). c.loop-i.paths ++ p ∷ []) it in
    items ∙ (ap (λ (ps : List Names). ps ++ last) c.loop-i.invariant
    ∙ (append_assoc before (prefixes shorter) last ∙ ap (λ (ps : List Names). before ++ ps) (sym (prefixes-push shorter name) ∙ ap prefixes (sym more))))
