use Rattle.std.proofs.Common.{ℕ, ◌<◌, length, sym, ◌∙◌, subst}
use Rattle.std.proofs.lemmas.Bool.{ltb-true, eqb-true}
use Rattle.disk_folder.specs.declared.trouble.Reason.{Reason}
use Rattle.backing.specs.Calls.{AskRemoveDir}
use Rattle.disk_folder.specs.Explained.{Explains}
use Rattle.disk_folder.specs.Troubles.{reason_errno}
use Rattle.disk_folder.proofs.Witnesses.{dir_root, dir_lost, dir_no_folder, dir_not_bare}
use Rattle.disk_folder.proofs.explained.is_no_bare_folder.Goals as goal

pub returns-in-Root : goal.returns-in-Root
returns-in-Root c = λ yes.
    let p = c.args.path.now in
    subst (λ (r : Reason). Explains (AskRemoveDir p) (reason_errno r)) (sym c.in-Root.is) (dir_root p (sym c.len.ensures ∙ eqb-true c.len.result 0 yes))

pub returns-in-Names : goal.returns-in-Names
returns-in-Names c = λ yes.
    let p = c.args.path.now in
    let within : 0 < length p = subst (λ (n : ℕ). 0 < n) c.len-in-Names.ensures (ltb-true 0 c.len-in-Names.result yes) in
    subst (λ (r : Reason). Explains (AskRemoveDir p) (reason_errno r)) (sym c.in-Names.is) (dir_not_bare p within)

pub returns-in-Nothing : goal.returns-in-Nothing
returns-in-Nothing c = λ yes.
    let p = c.args.path.now in
    let within : 0 < length p = subst (λ (n : ℕ). 0 < n) c.len-in-Nothing.ensures (ltb-true 0 c.len-in-Nothing.result yes) in
    subst (λ (r : Reason). Explains (AskRemoveDir p) (reason_errno r)) (sym c.in-Nothing.is) (dir_lost p within)

pub returns-in-NoFolder : goal.returns-in-NoFolder
returns-in-NoFolder c = λ yes.
    let p = c.args.path.now in
    let within : 0 < length p = subst (λ (n : ℕ). 0 < n) c.len-in-NoFolder.ensures (ltb-true 0 c.len-in-NoFolder.result yes) in
    subst (λ (r : Reason). Explains (AskRemoveDir p) (reason_errno r)) (sym c.in-NoFolder.is) (dir_no_folder p within)
