use Rattle.disk_folder.proofs.look.look_in.Goals as goal

pub returns-in-Err-Absent-clause-err : goal.returns-in-Err-Absent-clause-err
returns-in-Err-Absent-clause-err g c = λ up there. rw c.in-Err-Absent.field-0-is at (c.in-Err-Absent.ensures up there)
