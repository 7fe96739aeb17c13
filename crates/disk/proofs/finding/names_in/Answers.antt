use Rattle.std.proofs.Common.{◌++◌, ◌∷◌, [], List, Vec, take, sym, ap, ◌∙◌, subst}
use Rattle.paths.specs.Prefixes.{Name}
use Rattle.std.specs.declared.alloc.Global.{Global}
use Rattle.backing.specs.declared.entries.TreeEntry.{TreeEntry}
use Rattle.disk.specs.Spots.{entry_of, entries_of}
use Rattle.disk.proofs.Naming.{Listed, listed_child, listed_other, one_more, lists_all}
use Rattle.disk.proofs.finding.names_in.Goals as goal
use Rattle.disk.proofs.finding.names_in.Goals.{in-Some+in_ok-push_name-in-Some, in-None}

pub loop-spot-preserved : goal.loop-spot-preserved
loop-spot-preserved c =
    let i = c.loop-spot.spot-index in
    let x = c.spot-item.result in
    let p = c.args.folder.now in
    let es = take i (entries_of c.args.spots.now) in
    let old = c.loop-spot.names.items in
    let one = one_more c.args.spots.now i x c.requires c.loop-spot-test.true c.spot-item.is in
    subst (λ (ys : List TreeEntry). Listed ys p c.match-child_of.names.items) (sym one.more) (elim c.match-child_of.branch [
      | in-Some+in_ok-push_name-in-Some w ↦
          let name = w.in-Some.name.now in
          let items = ap (λ (v : Vec Name Global). v.items) w.names-is ∙ w.in_ok-push_name-in-Some.ensures in
          subst (λ (ns : List Name). Listed (es ++ entry_of x ∷ []) p ns) (sym items) (listed_child es (entry_of x) p name old one.fresh w.in-Some.ensures.some c.loop-spot.invariant)
      | in-None w ↦
          let items = ap (λ (v : Vec Name Global). v.items) w.names-is in
          subst (λ (ns : List Name). Listed (es ++ entry_of x ∷ []) p ns) (sym items) (listed_other es (entry_of x) p old one.fresh w.in-None.ensures.none c.loop-spot.invariant)
    ])

pub returns : goal.returns
returns c = lists_all c.args.spots.now c.args.folder.now c.loop-spot.names.items c.loop-spot.spot-index c.requires c.loop-spot-test.false c.loop-spot.invariant
