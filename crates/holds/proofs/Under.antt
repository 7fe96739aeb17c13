-- The path of a name under a parent.
use Rattle.std.proofs.Common.{◌+◌, ◌≡◌, ◌++◌, true, [], ◌∷◌, length, get_or, length-append, sym, ap, ◌∙◌, subst, arith}
use Rattle.std.proofs.Math.Seq.{get_or-append_seam}
use Rattle.paths.specs.Prefixes.{Name, Names, is_prefix}
use Rattle.paths.proofs.PrefixLemmas.{is_prefix-append, is_prefix-more}

alone_in : (up more : Names) (x : Name) → length more ≡ 1 → x ≡ get_or (up ++ more) (length up) x → up ++ more ≡ up ++ x ∷ []
alone_in up [] x one read = absurd (omega (arith, one))
alone_in up (y ∷ []) x one read = ap (λ (z : Name). up ++ z ∷ []) (sym (read ∙ get_or-append_seam up y [] x))
alone_in up (y ∷ z ∷ more) x one read = absurd (omega (arith, one))

-- the path above is a prefix, and there is one name more
pub under_is : (p up : Names) (x : Name) → length p ≡ length up + 1 → is_prefix up p ≡ true → x ≡ get_or p (length up) x → p ≡ up ++ x ∷ []
under_is p up x long begins read =
    let it = is_prefix-more up p begins in
    let sizes : length p ≡ length up + length it.0 = ap (λ (q : Names). length q) it.1 ∙ length-append up it.0 in
    it.1 ∙ alone_in up it.0 x (omega (arith, long, sizes)) (subst (λ (q : Names). x ≡ get_or q (length up) x) it.1 read)

pub under_last : (p up : Names) (name x : Name) → p ≡ up ++ name ∷ [] → x ≡ get_or p (length up) x → x ≡ name
under_last p up name x is read = subst (λ (q : Names). x ≡ get_or q (length up) x) is read ∙ get_or-append_seam up name [] x

pub under_begins : (p up : Names) (name : Name) → p ≡ up ++ name ∷ [] → is_prefix up p ≡ true
under_begins p up name is = subst (λ (q : Names). is_prefix up q ≡ true) (sym is) (is_prefix-append up (name ∷ []))

pub under_length : (p up : Names) (name : Name) → p ≡ up ++ name ∷ [] → length p ≡ length up + 1
under_length p up name is = ap (λ (q : Names). length q) is ∙ length-append up (name ∷ [])
