use Rattle.std.proofs.Common.{ℕ, ◌<◌, length, ◌++◌, sym, ◌∙◌, subst}
use Rattle.std.proofs.lemmas.Bool.{ltb-true, eqb-true}
use Rattle.disk_folder.specs.declared.trouble.Reason.{Reason}
use Rattle.backing.specs.Checks.{source_tests}
use Rattle.disk_folder.specs.Explained.{Explained}
use Rattle.disk_folder.specs.Troubles.{reason_errno}
use Rattle.disk_folder.proofs.MoveWitnesses.{from_root, to_root, source_lost, source_blocked}
use Rattle.disk_folder.proofs.explained.is_no_source.Goals as goal

pub returns-then-len-eq0 : goal.returns-then-len-eq0
returns-then-len-eq0 c = λ _ more.
    let s = c.args.from.now in
    let t = c.args.to.now in
    subst (λ (r : Reason). Explained (source_tests s t ++ more) (reason_errno r)) (sym c.in-Root.is) (from_root s t more (sym c.len.ensures ∙ c.if-len-eq0.true))

pub returns-else-len-eq0 : goal.returns-else-len-eq0
returns-else-len-eq0 c = λ yes more.
    let s = c.args.from.now in
    let t = c.args.to.now in
    subst (λ (r : Reason). Explained (source_tests s t ++ more) (reason_errno r)) (sym c.in-Root.is) (to_root s t more (λ e. c.if-len-eq0.false (c.len.ensures ∙ e)) (sym c.len-in-Root.ensures ∙ eqb-true c.len-in-Root.result 0 yes))

pub returns-else-len-eq0-2 : goal.returns-else-len-eq0-2
returns-else-len-eq0-2 c = λ yes more.
    let s = c.args.from.now in
    let t = c.args.to.now in
    subst (λ (r : Reason). Explained (source_tests s t ++ more) (reason_errno r)) (sym c.in-Nothing.is) (source_lost s t more (λ e. c.if-len-eq0-2.false (c.len-in-Nothing.ensures ∙ e)) (subst (λ (n : ℕ). 0 < n) c.len-in-Nothing-2.ensures (ltb-true 0 c.len-in-Nothing-2.result yes)))

pub returns-then-len-gt1 : goal.returns-then-len-gt1
returns-then-len-gt1 c = λ yes more.
    let s = c.args.from.now in
    let t = c.args.to.now in
    let deep : 1 < length s = subst (λ (n : ℕ). 1 < n) c.len-in-NoFolder.ensures c.if-len-gt1.true in
    let within : 0 < length t = subst (λ (n : ℕ). 0 < n) c.len-then-len-gt1.ensures (ltb-true 0 c.len-then-len-gt1.result yes) in
    subst (λ (r : Reason). Explained (source_tests s t ++ more) (reason_errno r)) (sym c.in-NoFolder.is) (source_blocked s t more deep within)
