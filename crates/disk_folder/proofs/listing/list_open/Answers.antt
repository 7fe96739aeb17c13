use Rattle.std.proofs.Common.{List, sym, subst}
use Rattle.paths.specs.Prefixes.{Name}
use Rattle.disk.specs.Answers.{ListsNames}
use Rattle.disk_folder.proofs.OrderLemmas.{listed_in, lists_sorted}
use Rattle.disk_folder.proofs.listing.list_open.Goals as goal

pub returns-in-Ok-clause-ok : goal.returns-in-Ok-clause-ok
returns-in-Ok-clause-ok g c = λ p there.
    let at = g.D.Disk.tree c.args.disk.now in
    let sorted = lists_sorted at p c.in-Ok.names.items c.sort.new.names.items c.sort.ensures (c.in-Ok.ensures p there) in
    listed_in at p c.as_slice.result.now c.look_all.result (λ seen. seen.items) (subst (λ (names : List Name). ListsNames at p names) (sym c.as_slice.ensures.value) sorted) (c.look_all.ensures.ok p there)
