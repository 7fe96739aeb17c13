use Rattle.std.proofs.Common.{ℕ, ◌<◌, length, ◌∷◌, sym, subst}
use Rattle.std.proofs.lemmas.Bool.{ltb-true}
use Rattle.disk_folder.specs.declared.trouble.Reason.{Reason}
use Rattle.backing.specs.Calls.{Reached, Present, FileAt}
use Rattle.disk_folder.specs.Explained.{Explained}
use Rattle.disk_folder.specs.Troubles.{reason_errno}
use Rattle.disk_folder.proofs.Witnesses.{no_file_folder, no_file_neither}
use Rattle.disk_folder.proofs.explained.is_no_file.Goals as goal

pub returns-in-Folder : goal.returns-in-Folder
returns-in-Folder c = λ yes more.
    let p = c.args.path.now in
    subst (λ (r : Reason). Explained (Reached p ∷ Present p ∷ FileAt p ∷ more) (reason_errno r)) (sym c.in-Folder.is) (no_file_folder p more)

pub returns-in-NoFile : goal.returns-in-NoFile
returns-in-NoFile c = λ yes more.
    let p = c.args.path.now in
    let within : 0 < length p = subst (λ (n : ℕ). 0 < n) c.len.ensures (ltb-true 0 c.len.result yes) in
    subst (λ (r : Reason). Explained (Reached p ∷ Present p ∷ FileAt p ∷ more) (reason_errno r)) (sym c.in-NoFile.is) (no_file_neither p more within)
