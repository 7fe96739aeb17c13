use Rattle.std.proofs.Common.{◌≡◌, ◌+◌, [], ◌∷◌, ◌++◌, take, sym, ap, ◌∙◌, subst, List}
use Rattle.std.proofs.lemmas.List.{take_more}
use Rattle.paths.specs.Prefixes.{Names}
use Rattle.table_image.proofs.Exported.{IsHeldBySome, Stores, Stores-more}
use Rattle.table.specs.Copies.{exclusive_in_all, sharers_in}
use Rattle.table.proofs.export.add_paths.Goals as goal

pub add_hold-requires-clause-held : goal.add_hold-requires-clause-held
add_hold-requires-clause-held c =
    let fs = c.args.flights.now.flights in
    subst (λ (p : Names). IsHeldBySome (sharers_in fs) (exclusive_in_all fs) p) (sym c.path-item.is) (c.requires.held c.loop-path.path-index c.path-item.result c.loop-path-test.true)

pub loop-path-preserved : goal.loop-path-preserved
loop-path-preserved c =
    let ps = c.args.paths.now in
    let i = c.loop-path.path-index in
    let p = c.path-item.result in
    let next : take (i + 1) ps ≡ take i ps ++ p ∷ [] = take_more ps i p c.loop-path-test.true ∙ ap (λ (q : Names). take i ps ++ q ∷ []) (sym c.path-item.is) in
    record {
      lists = c.in_ok-add_hold.ensures.lists;
      stores = subst (λ (qs : List Names). Stores c.args.holds.now.items c.add_hold.new.holds.items qs) (sym next)
          (Stores-more c.args.holds.now.items c.loop-path.holds.items c.add_hold.new.holds.items (take i ps) p c.loop-path.invariant.stores c.in_ok-add_hold.ensures.stores);
    }
