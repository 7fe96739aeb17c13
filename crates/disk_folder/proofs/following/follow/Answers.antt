use Rattle.disk_folder.proofs.CacheLemmas.{found_live, relocated_none}
use Rattle.disk_folder.proofs.MoveEnds.{cleared_follows, keeps_follows, relocated_follows}
use Rattle.disk_folder.proofs.StandLemmas.{held_keeps_all}
use Rattle.disk_folder.proofs.following.follow.Goals as goal

pub value-requires : goal.value-requires
value-requires g c = found_live c.child.new.self c.in-Some.place _ (c.in-Some.ensures.found c.requires.path c.requires.at)

pub returns-in-None : goal.returns-in-None
returns-in-None g c = λ up above here there apart.
    let mid = c.child.new.self in
    let keeps = c.child.ensures.keeps in
    let there_still = held_keeps_all c.args.cache.now mid c.args.target.now.folder above keeps there in
    keeps_follows c.args.cache.now mid c.forget.new.self _ _ keeps (relocated_follows mid _ _ _ (relocated_none mid _ _ _ (c.forget.ensures above there_still) (c.in-None.ensures.none up here)))

pub returns-then-is_by_name : goal.returns-then-is_by_name
returns-then-is_by_name g c = λ up above here there apart.
    let mid = c.child.new.self in
    keeps_follows c.args.cache.now mid c.clear.new.self _ _ c.child.ensures.keeps (cleared_follows mid c.clear.new.self up c.args.source.now.name.now above c.args.target.now.name.now c.clear.ensures)

pub returns-else-is_by_name : goal.returns-else-is_by_name
returns-else-is_by_name g c = λ up above here there apart.
    let mid = c.child.new.self in
    let keeps = c.child.ensures.keeps in
    let here_still = held_keeps_all c.args.cache.now mid c.args.source.now.folder up keeps here in
    let there_still = held_keeps_all c.args.cache.now mid c.args.target.now.folder above keeps there in
    keeps_follows c.args.cache.now mid c.relocate.new.self _ _ keeps (relocated_follows mid _ _ _ (c.relocate.ensures up above here_still there_still apart))
