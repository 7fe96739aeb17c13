use Rattle.std.proofs.Common.{sym}
use Rattle.table_steps.proofs.OneFile.{note_kept, open_kept}
use Rattle.table_steps.proofs.state.State.open_file.Goals as goal

pub returns-clause-kept : goal.returns-clause-kept
returns-clause-kept c =
    let s = c.args.self.now in
    let e = c.requires.ended in
    let opened = open_kept s c.open-handle.new.self c.args.number c.in-Some.node.now c.args.access c.requires.kept (sym c.in-Some.ensures.found) c.requires.room c.open-handle.ensures.new_is c.open-handle.ensures.law in
    note_kept (record s { files = c.open-handle.new.self }) opened c.note_file.new.self c.args.id c.open-handle.result e.flight e.here e.ended (c.note_file.ensures.notes e.flight e.here) c.note_file.ensures.law
