use Rattle.std.proofs.Common.{sym, ◌∙◌}
use Rattle.linux_disk.specs.Keys.{is_key}
use Rattle.linux_disk.proofs.FileLemmas.{is_served}
use Rattle.linux_disk.proofs.files.OpenFiles.find.Goals as goal

pub returns-then-serves-clause-found : goal.returns-then-serves-clause-found
returns-then-serves-clause-found g c =
    is_served c.args.self.now.files.entries (is_key c.args.query.device c.args.query.inode c.args.query.name.now) c.args.access c.in-Some.kept.now c.copy.result c.copy.ensures (sym c.in-Some.ensures.value) (sym c.serves.ensures ∙ c.if-serves.true)
