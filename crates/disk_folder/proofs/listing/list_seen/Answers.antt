use Rattle.std.proofs.Common.{IfOk, subst}
use Rattle.paths.specs.Prefixes.{Names}
use Rattle.backing.specs.Checks.{folder_tests}
use Rattle.disk_folder.specs.Ends.{IsRefused}
use Rattle.disk_folder.specs.Listed.{IsListing}
use Rattle.disk_folder.proofs.ListLemmas.{barred_refused, listing_of}
use Rattle.disk_folder.proofs.StandLemmas.{folder_stands}
use Rattle.disk_folder.proofs.listing.list_seen.Goals as goal

pub returns-in-Ok-clause-ok : goal.returns-in-Ok-clause-ok
returns-in-Ok-clause-ok g c = λ all.
    let at = g.D.Disk.tree c.args.disk.now in
    let q = c.names.result.now in
    let it = c.in-Ok.ensures.ok all in
    let there = folder_stands at (g.D.Disk.stands c.args.disk.now) c.reach.new.cache c.in-Ok.folder q c.open.result.now it c.open.ensures in
    subst (λ (p : Names). IfOk c.list_open.result (λ seen. IsListing at p seen.items)) c.names.ensures (listing_of at q c.list_open.result (λ seen. seen.items) it.folder (c.list_open.ensures.ok q there))

pub returns-in-Err-clause-err : goal.returns-in-Err-clause-err
returns-in-Err-clause-err g c = λ all.
    let at = g.D.Disk.tree c.args.disk.now in
    subst (λ (p : Names). IsRefused at (folder_tests p) c.in-Err.trouble) c.names.ensures (barred_refused at c.names.result.now c.in-Err.trouble (c.in-Err.ensures.err all))
