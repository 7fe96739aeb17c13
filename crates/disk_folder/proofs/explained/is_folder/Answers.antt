use Rattle.std.proofs.Common.{◌∷◌, sym, subst}
use Rattle.disk_folder.specs.declared.trouble.Reason.{Reason}
use Rattle.backing.specs.Calls.{Reached, Present, NoFolder}
use Rattle.disk_folder.specs.Explained.{Explained}
use Rattle.disk_folder.specs.Troubles.{reason_errno}
use Rattle.disk_folder.proofs.Witnesses.{folder_there}
use Rattle.disk_folder.proofs.explained.is_folder.Goals as goal

pub returns-in-Folder : goal.returns-in-Folder
returns-in-Folder c = λ yes more.
    let p = c.args.path.now in
    subst (λ (r : Reason). Explained (Reached p ∷ Present p ∷ NoFolder p ∷ more) (reason_errno r)) (sym c.in-Folder.is) (folder_there p more)
