use Rattle.std.proofs.Common.{List, IfOk, ◌≡◌, subst}
use Rattle.backing.specs.declared.call.Answer.TheVariants.{Names as NamesAre}
use Rattle.disk_folder.specs.declared.listing.SeenName.{SeenName}
use Rattle.disk_folder.specs.Listed.{children_of}
use Rattle.disk_folder.proofs.ListLemmas.{list_ends}
use Rattle.disk_folder.proofs.listing.list.Goals as goal

pub returns-in-Ok-clause-ends : goal.returns-in-Ok-clause-ends
returns-in-Ok-clause-ends g c = λ all.
    let told = subst (λ (xs : List SeenName). IfOk c.names_of-answer.result (λ answer. answer ≡ NamesAre (children_of xs))) c.as_slice.ensures.value c.names_of-answer.ensures.ok in
    list_ends (g.D.Disk.tree c.args.disk.now) c.args.path.now c.in-Ok.seen.items c.names_of-answer.result (g.met.D.Disk.is_tree c.args.disk.now) (c.in-Ok.ensures.ok all) told c.names_of-answer.ensures.err

pub returns-in-Ok-clause-listed : goal.returns-in-Ok-clause-listed
returns-in-Ok-clause-listed g c = λ all was. c.remember.ensures (g.D.Disk.tree c.args.disk.now) (c.in-Ok.ensures.ok all).are.each
