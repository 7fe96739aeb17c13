use Rattle.std.proofs.Common.{ℕ, ◌<◌, length, ◌∷◌, sym, subst}
use Rattle.std.proofs.lemmas.Bool.{ltb-true}
use Rattle.disk_folder.specs.declared.trouble.Reason.{Reason}
use Rattle.backing.specs.Calls.{Reached, Present, FolderAt}
use Rattle.disk_folder.specs.Explained.{Explained}
use Rattle.disk_folder.specs.Troubles.{reason_errno}
use Rattle.disk_folder.proofs.Witnesses.{no_folder}
use Rattle.disk_folder.proofs.explained.is_no_folder.Goals as goal

pub returns-in-NoFolder : goal.returns-in-NoFolder
returns-in-NoFolder c = λ yes more.
    let p = c.args.path.now in
    let within : 0 < length p = subst (λ (n : ℕ). 0 < n) c.len.ensures (ltb-true 0 c.len.result yes) in
    subst (λ (r : Reason). Explained (Reached p ∷ Present p ∷ FolderAt p ∷ more) (reason_errno r)) (sym c.in-NoFolder.is) (no_folder p more within)
