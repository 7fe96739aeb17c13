use Rattle.std.proofs.Common.{ℕ, ◌<◌, length, ◌∷◌, sym, subst}
use Rattle.std.proofs.lemmas.Bool.{ltb-true}
use Rattle.disk_folder.specs.declared.trouble.Reason.{Reason}
use Rattle.backing.specs.Calls.{Reached, Free}
use Rattle.disk_folder.specs.Explained.{Explained}
use Rattle.disk_folder.specs.Troubles.{reason_errno}
use Rattle.disk_folder.proofs.Witnesses.{taken, not_there, lost_blocked}
use Rattle.disk_folder.proofs.explained.is_not_free.Goals as goal

pub returns-in-Taken : goal.returns-in-Taken
returns-in-Taken c = λ yes more.
    let p = c.args.path.now in
    subst (λ (r : Reason). Explained (Reached p ∷ Free p ∷ more) (reason_errno r)) (sym c.in-Taken.is) (taken p more)

pub returns-in-Nothing : goal.returns-in-Nothing
returns-in-Nothing c = λ yes more.
    let p = c.args.path.now in
    let within : 1 < length p = subst (λ (n : ℕ). 1 < n) c.len.ensures (ltb-true 1 c.len.result yes) in
    subst (λ (r : Reason). Explained (Reached p ∷ Free p ∷ more) (reason_errno r)) (sym c.in-Nothing.is) (not_there p (Free p ∷ more) within)

pub returns-in-NoFolder : goal.returns-in-NoFolder
returns-in-NoFolder c = λ yes more.
    let p = c.args.path.now in
    let within : 1 < length p = subst (λ (n : ℕ). 1 < n) c.len-in-NoFolder.ensures (ltb-true 1 c.len-in-NoFolder.result yes) in
    subst (λ (r : Reason). Explained (Reached p ∷ Free p ∷ more) (reason_errno r)) (sym c.in-NoFolder.is) (lost_blocked p (Free p ∷ more) within)
