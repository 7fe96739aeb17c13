use Rattle.wire.proofs.Listed.{is_plus_dirent}
use Rattle.wire.proofs.dirents.encode_plus_dirent.Goals as goal

pub returns-clause-dirent : goal.returns-clause-dirent
returns-clause-dirent c short =
    is_plus_dirent (record { entry = c.args.entry; next = c.args.next; kind = c.args.kind; name = c.args.name.now }) c.put_plus_dirent.ensures.tells c.ranges.next.fits short
