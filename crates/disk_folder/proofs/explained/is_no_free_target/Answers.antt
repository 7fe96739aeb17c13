use Rattle.std.proofs.Common.{ℕ, ◌≡◌, ◌<◌, length, [], ap, sym, ◌∙◌, subst, arith}
use Rattle.std.proofs.lemmas.Bool.{ltb-true}
use Rattle.paths.specs.Prefixes.{Names}
use Rattle.disk_folder.specs.declared.trouble.Reason.{Reason}
use Rattle.backing.specs.Calls.{AskLink}
use Rattle.disk_folder.specs.Explained.{Explains}
use Rattle.disk_folder.specs.Troubles.{reason_errno}
use Rattle.disk_folder.proofs.NameWitnesses.{name_blocked, name_taken, rest_of}
use Rattle.disk_folder.proofs.explained.is_no_free_target.Goals as goal

not_root : (p : Names) (n : ℕ) → n ≡ length p → (n ≡ 0 → ⊥) → p ≡ [] → ⊥
not_root p n long some e = some (long ∙ ap (λ (q : Names). length q) e)

pub returns-then-is_no_source : goal.returns-then-is_no_source
returns-then-is_no_source c = λ _. c.is_no_source.ensures c.if-is_no_source.true (rest_of c.args.to.now)

pub returns-else-len-eq0 : goal.returns-else-len-eq0
returns-else-len-eq0 c = λ yes.
    let s = c.args.from.now in
    let t = c.args.to.now in
    let some : 0 < c.len-in-Taken.result = ltb-true 0 c.len-in-Taken.result yes in
    let low_t = not_root t c.len-in-Taken.result c.len-in-Taken.ensures (λ e. omega (arith, e, some)) in
    subst (λ (r : Reason). Explains (AskLink s t) (reason_errno r)) (sym c.in-Taken.is) (name_taken s t (not_root s c.len.result c.len.ensures c.if-len-eq0.false) low_t)

pub returns-else-len-eq0-2 : goal.returns-else-len-eq0-2
returns-else-len-eq0-2 c = λ yes.
    let s = c.args.from.now in
    let t = c.args.to.now in
    let deep : 1 < length t = subst (λ (n : ℕ). 1 < n) c.len-in-NoFolder-2.ensures (ltb-true 1 c.len-in-NoFolder-2.result yes) in
    subst (λ (r : Reason). Explains (AskLink s t) (reason_errno r)) (sym c.in-NoFolder.is) (name_blocked s t (not_root s c.len-in-NoFolder.result c.len-in-NoFolder.ensures c.if-len-eq0-2.false) deep)
