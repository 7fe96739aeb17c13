use Rattle.std.proofs.Common.{◌++◌, ◌∷◌, [], sym, subst}
use Rattle.paths.specs.Prefixes.{Names}
use Rattle.backing.specs.Calls.{AskRename}
use Rattle.disk.specs.Answers.{AreApart}
use Rattle.disk_folder.specs.Ends.{EndsOrStays}
use Rattle.disk_folder.proofs.StandLemmas.{kept_stands}
use Rattle.disk_folder.proofs.UnseenEnds.{unseen_ends}
use Rattle.disk_folder.proofs.WayLemmas.{leads_below}
use Rattle.disk_folder.proofs.unseen.move_kept.Goals as goal

pub move_in-requires-clause-source : goal.move_in-requires-clause-source
move_in-requires-clause-source g c = let it = c.requires.source.1 in record { held = record { path = it.up; at = it.at }; lawful = it.lawful }

pub move_in-requires-clause-target : goal.move_in-requires-clause-target
move_in-requires-clause-target g c = let it = c.requires.target.1 in record { held = record { path = it.up; at = it.at }; lawful = it.lawful }

pub returns-clause-ends : goal.returns-clause-ends
returns-clause-ends g c = λ from to here there apart all.
    let at = g.D.Disk.tree c.args.disk.now in
    let olds = g.D.Disk.stands c.args.disk.now in
    let tree = g.met.D.Disk.is_tree c.args.disk.now in
    let after = g.D.Disk.tree c.move_in.new.disk in
    let s = here.up ++ c.args.source.name.now ∷ [] in
    let t = there.up ++ c.args.target.name.now ∷ [] in
    let source = kept_stands at olds c.args.cache.now c.args.source from tree.root all here in
    let target = kept_stands at olds c.args.cache.now c.args.target to tree.root all there in
    let far = subst (λ (q : Names). AreApart q t) here.whole (subst (λ (q : Names). AreApart from q) there.whole apart) in
    let ended = unseen_ends at after olds (g.D.Disk.stands c.move_in.new.disk) s t c.move_in.result tree (leads_below at there.up c.args.target.name.now tree target.folder) far (c.move_in.ensures.moves here.up there.up source target far) in
    subst (λ (q : Names). EndsOrStays at (AskRename q to) c.move_in.result after) (sym here.whole) (subst (λ (q : Names). EndsOrStays at (AskRename s q) c.move_in.result after) (sym there.whole) ended)

pub returns-clause-stand : goal.returns-clause-stand
returns-clause-stand g c = λ from to here there apart all.
    let at = g.D.Disk.tree c.args.disk.now in
    let olds = g.D.Disk.stands c.args.disk.now in
    let tree = g.met.D.Disk.is_tree c.args.disk.now in
    let t = there.up ++ c.args.target.name.now ∷ [] in
    let source = kept_stands at olds c.args.cache.now c.args.source from tree.root all here in
    let target = kept_stands at olds c.args.cache.now c.args.target to tree.root all there in
    let far = subst (λ (q : Names). AreApart q t) here.whole (subst (λ (q : Names). AreApart from q) there.whole apart) in
    c.move_in.ensures.stand here.up there.up source target far
