use Rattle.std.proofs.Common.{◌≡◌, ◌∙◌, ◌++◌, ◌∷◌, [], ap, sym, subst, take, get_or}
use Rattle.std.proofs.lemmas.List.{take_more}
use Rattle.paths.specs.Prefixes.{Name, Names}
use Rattle.path_cache.proofs.CallerLemmas.{root_at}
use Rattle.disk_folder.specs.Troubles.{IsBlocked}
use Rattle.disk_folder.proofs.WayLemmas.{barred_at}
use Rattle.disk_folder.proofs.walk.reach.Goals as goal

pub loop-name-init : goal.loop-name-init
loop-name-init g c = record {
  held = root_at c.args.cache.now.cache;
  folder = λ all. record { all = all; held_at = root_at c.args.cache.now.cache; own = tt; folder = (g.met.D.Disk.is_tree c.args.disk.now).root };
}

pub returns-in-Err-clause-err : goal.returns-in-Err-clause-err
returns-in-Err-clause-err g c = λ all.
    let at = g.D.Disk.tree c.args.disk.now in
    let names = c.args.names.now in
    let k = c.loop-name.name-index in
    let it = c.loop-name.invariant.folder all in
    let whole : take k names ++ c.name-item.result ∷ [] ≡ take k names ++ get_or names k c.name-item.result ∷ [] = ap (λ (n : Name). take k names ++ n ∷ []) c.name-item.is in
    let same = whole ∙ sym (take_more names k c.name-item.result c.loop-name-test.true) in
    barred_at at names k c.in-Err.trouble (g.met.D.Disk.is_tree c.args.disk.now) it.folder c.loop-name-test.true
    (subst (λ (q : Names). IsBlocked at q c.in-Err.trouble) same (c.in-Err.ensures.err (take k names) it))
