use Rattle.std.proofs.Common.{◌≡◌, true, false}
use Rattle.disk_folder.proofs.StandLemmas.{folder_stands}
use Rattle.disk_folder.proofs.NameEnds.{not_linked_ends, not_linked_stand}
use Rattle.disk_folder.proofs.linking.link_in.Goals as goal

true_false : true ≡ false → ⊥
true_false e = cc

pub returns-in-Ok-clause-ends : goal.returns-in-Ok-clause-ends
returns-in-Ok-clause-ends g c = λ up up' it that none. absurd (true_false none)

pub returns-in-Ok-clause-stand : goal.returns-in-Ok-clause-stand
returns-in-Ok-clause-stand g c = λ up up' it that none. absurd (true_false none)

pub returns-in-Ok-clause-granted : goal.returns-in-Ok-clause-granted
returns-in-Ok-clause-granted g c = λ up up' it that.
    let at = g.D.Disk.tree c.args.disk.now in
    let olds = g.D.Disk.stands c.args.disk.now in
    let there = folder_stands at olds c.args.cache.now c.args.source.now.folder up c.open.result.now it c.open.ensures in
    let there_too = folder_stands at olds c.args.cache.now c.args.target.now.folder up' c.open-2.result.now that c.open-2.ensures in
    c.in-Ok.ensures up up' there there_too

pub returns-in-Err-clause-ends : goal.returns-in-Err-clause-ends
returns-in-Err-clause-ends g c = λ up up' it that none.
    let at = g.D.Disk.tree c.args.disk.now in
    let olds = g.D.Disk.stands c.args.disk.now in
    let there = folder_stands at olds c.args.cache.now c.args.source.now.folder up c.open.result.now it c.open.ensures in
    let there_too = folder_stands at olds c.args.cache.now c.args.target.now.folder up' c.open-2.result.now that c.open-2.ensures in
    not_linked_ends at (g.D.Disk.tree c.link.new.self) olds (g.D.Disk.stands c.link.new.self) up c.args.source.now.name.now up' c.args.target.now.name.now c.in-Err.error c.why_not_linked.result (g.met.D.Disk.is_tree c.args.disk.now) it.folder that.folder (c.in-Err.ensures up up' there there_too) c.why_not_linked.ensures

pub returns-in-Err-clause-stand : goal.returns-in-Err-clause-stand
returns-in-Err-clause-stand g c = λ up up' it that none.
    let at = g.D.Disk.tree c.args.disk.now in
    let olds = g.D.Disk.stands c.args.disk.now in
    let there = folder_stands at olds c.args.cache.now c.args.source.now.folder up c.open.result.now it c.open.ensures in
    let there_too = folder_stands at olds c.args.cache.now c.args.target.now.folder up' c.open-2.result.now that c.open-2.ensures in
    not_linked_stand at _ olds (g.D.Disk.stands c.link.new.self) c.args.cache.now _ _ c.in-Err.error (c.in-Err.ensures up up' there there_too) it.all
