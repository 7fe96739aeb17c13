use Rattle.std.proofs.Common.{Err, sym, subst}
use Rattle.backing.specs.Calls.{AskSetLen}
use Rattle.disk.specs.Errors.{errno_of}
use Rattle.disk_folder.specs.declared.trouble.Trouble.{Trouble}
use Rattle.disk_folder.specs.Ends.{Ends}
use Rattle.disk_folder.proofs.FileEnds.{cut_ends, cut_open, not_cut_ends, not_cut_open}
use Rattle.disk_folder.proofs.files.set_len_open.Goals as goal

pub returns-in-Ok-clause-ends : goal.returns-in-Ok-clause-ends
returns-in-Ok-clause-ends g c = λ p before there file. cut_ends (g.D.Disk.tree c.args.disk.now) (g.D.Disk.tree c.set_len.new.self) (g.D.Disk.stands c.args.disk.now) (g.D.Disk.stands c.set_len.new.self) p c.args.size (g.met.D.Disk.is_tree c.args.disk.now) (c.in-Ok.ensures p there)

pub returns-in-Ok-clause-stay : goal.returns-in-Ok-clause-stay
returns-in-Ok-clause-stay g c = λ p before there file. cut_open (g.D.Disk.tree c.args.disk.now) (g.D.Disk.tree c.set_len.new.self) (g.D.Disk.stands c.args.disk.now) (g.D.Disk.stands c.set_len.new.self) p c.args.size (c.in-Ok.ensures p there)

pub returns-in-Err-clause-ends : goal.returns-in-Err-clause-ends
returns-in-Err-clause-ends g c = λ p before there file.
    let at = g.D.Disk.tree c.args.disk.now in
    let at' = g.D.Disk.tree c.set_len.new.self in
    subst (λ (t : Trouble). Ends at (AskSetLen p c.args.size) (Err t) at') (sym c.failure.ensures)
    (not_cut_ends at at' (g.D.Disk.stands c.args.disk.now) (g.D.Disk.stands c.set_len.new.self) p c.args.size c.in-Err.error (errno_of c.in-Err.error) (g.met.D.Disk.is_tree c.args.disk.now) (c.in-Err.ensures p there))

pub returns-in-Err-clause-stay : goal.returns-in-Err-clause-stay
returns-in-Err-clause-stay g c = λ p before there file. not_cut_open (g.D.Disk.tree c.args.disk.now) (g.D.Disk.tree c.set_len.new.self) (g.D.Disk.stands c.args.disk.now) (g.D.Disk.stands c.set_len.new.self) p c.args.size c.in-Err.error (c.in-Err.ensures p there)
