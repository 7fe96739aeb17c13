use Rattle.wire.proofs.Listed.{is_dirent}
use Rattle.wire.proofs.dirents.encode_dirent.Goals as goal

pub returns-in_err-reserve-clause-dirent : goal.returns-in_err-reserve-clause-dirent
returns-in_err-reserve-clause-dirent c short =
    is_dirent (record { ino = c.args.ino; next = c.args.next; kind = c.args.kind; name = c.args.name.now }) c.ranges.ino.fits c.ranges.next.fits short

pub returns-clause-dirent : goal.returns-clause-dirent
returns-clause-dirent c short =
    is_dirent (record { ino = c.args.ino; next = c.args.next; kind = c.args.kind; name = c.args.name.now }) c.ranges.ino.fits c.ranges.next.fits short
