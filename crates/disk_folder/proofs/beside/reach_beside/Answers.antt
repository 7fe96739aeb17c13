use Rattle.std.proofs.Common.{◌≡◌, ◌∙◌, ◌++◌, ◌∷◌, [], ap, refl, sym, subst, take, ◌+◌}
use Rattle.std.proofs.lemmas.List.{take_more}
use Rattle.paths.specs.Prefixes.{Name, Names}
use Rattle.path_cache.proofs.CallerLemmas.{root_at}
use Rattle.disk_folder.specs.Standing.{IsFolderAt, IsHeldAt}
use Rattle.disk_folder.proofs.WayLemmas.{on_the_way}
use Rattle.disk_folder.proofs.beside.reach_beside.Goals as goal

pub loop-name-init : goal.loop-name-init
loop-name-init g c = record {
  keeps = record { kept = λ p. refl; places = λ place p at. at };
  held = root_at c.args.cache.now.cache;
  folder = λ name all down. record { all = all; held_at = root_at c.args.cache.now.cache; own = tt; folder = (g.met.D.Disk.is_tree c.args.disk.now).root };
}

pub loop-name-preserved : goal.loop-name-preserved
loop-name-preserved g c =
    let names = c.args.names.now in
    let k = c.loop-name.name-index in
    let item = c.name-item.result in
    let before = c.loop-name.invariant in
    let step = c.in-Ok.ensures in
    let same : take k names ++ item ∷ [] ≡ take (k + 1) names = ap (λ (n : Name). take k names ++ n ∷ []) c.name-item.is ∙ sym (take_more names k item c.loop-name-test.true) in
    let at = g.D.Disk.tree c.args.disk.now in
    let stands = g.D.Disk.stands c.args.disk.now in
    record {
      keeps = record { kept = λ p. step.keeps.kept p ∙ before.keeps.kept p; places = λ place p there. step.keeps.places place p (before.keeps.places place p there) };
      held = subst (λ (q : Names). IsHeldAt c.enter_beside.new.cache c.in-Ok.held q) same (step.held (take k names) before.held);
      folder = λ name all down.
          let it = before.folder name all down in
          subst (λ (q : Names). IsFolderAt at stands c.enter_beside.new.cache c.in-Ok.held q) same (step.ok (take k names) it (on_the_way at names name item k down c.loop-name-test.true same));
    }
