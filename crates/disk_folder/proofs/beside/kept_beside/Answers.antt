use Rattle.disk_folder.proofs.beside.kept_beside.Goals as goal

pub returns-in-Ok : goal.returns-in-Ok
returns-in-Ok g c = let it = c.requires in record { up = it.up; whole = c.in-Some.ensures it.up _ it.whole; at = it.at; kind = it.kind; lawful = c.in-Ok.ensures.ok }
