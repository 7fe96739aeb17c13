use Rattle.std.proofs.Common.{◌∷◌, sym, subst}
use Rattle.disk_folder.specs.declared.trouble.Reason.{Reason}
use Rattle.backing.specs.Calls.{Reached, Present, LinkAt}
use Rattle.disk_folder.specs.Explained.{Explained}
use Rattle.disk_folder.specs.Troubles.{reason_errno}
use Rattle.disk_folder.proofs.Witnesses.{no_link}
use Rattle.disk_folder.proofs.explained.is_no_link.Goals as goal

pub returns-in-NoLink : goal.returns-in-NoLink
returns-in-NoLink c = λ yes more.
    let p = c.args.path.now in
    subst (λ (r : Reason). Explained (Reached p ∷ Present p ∷ LinkAt p ∷ more) (reason_errno r)) (sym c.in-NoLink.is) (no_link p more)
