use Rattle.std.proofs.Common.{sym, ◌∙◌, ◌≡◌, length, arith}
use Rattle.std.proofs.lemmas.List.{take_all}
use Rattle.disk.proofs.PathSetting.{before_first, one_step}
use Rattle.disk.proofs.moving.set_paths.Goals as goal

pub loop-path-init : goal.loop-path-init
loop-path-init c =
    let spots = c.args.spots.now.items in
    let ps = c.args.paths.items in
    let n = c.len-i.result in
    let long : n ≡ length spots = c.len-i.ensures ∙ c.args.spots.now.ok.0 in
    let count : n ≡ length ps = long ∙ sym c.requires in
    record {
      count = count;
      within = omega arith;
      len = omega arith;
      left = sym (take_all n ps (omega arith));
      set = before_first spots ps n long;
    }

pub loop-path-preserved : goal.loop-path-preserved
loop-path-preserved c =
    let inv = c.loop-path.invariant in
    let it = one_step c.args.spots.now.items c.loop-path.spots.items c.set_path.new.spots.items c.args.paths.items c.loop-path.left.items c.pop.new.self.items c.loop-path.i c.in-Some.path (sym c.requires) inv.within inv.count inv.left c.in-Some.ensures.items inv.set c.set_path.ensures.set in
    record { count = it.count; within = it.within; len = c.set_path.ensures.len ∙ inv.len; left = it.left; set = it.set }
